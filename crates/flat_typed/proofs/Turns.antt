-- Statements on their lines, and one after another.
use Rattle.std.proofs.Common.{◌≡◌, ◌⊎◌, inl, inr, ℕ, ◌≤◌, ◌<◌, Bool, true, false, cond, not, ◌&&◌, ◌||◌, List, [], ◌∷◌, refl, sym, ap, ◌∙◌, subst, arith, nat_lt}
use Rattle.std.specs.Prelude.{None}
use Rattle.std.proofs.lemmas.Bool.{cases_lt, lt-ltb, eq-eqb}
use Rattle.silq_tree.specs.declared.node.NameId.{NameId}
use Rattle.silq_types.specs.declared.signature.InstanceKey.{InstanceKey}
use Rattle.silq_types.specs.declared.signature.Signature.{Signature}
use Rattle.silq_types.specs.declared.values.Var.{Var}
use Rattle.check_scope.specs.Walk.{Walk, answer, broken, counted, asked}
use Rattle.check_scope.specs.Context.{Scope, Context, Check, ◌>>◌, count_statement, pass}
use Rattle.check_expr.specs.Owners.{at_place, owns, owners, Gives, Sole}
use Rattle.check_expr.proofs.Owners.{gives-bind, gives-more}
use Rattle.silq_mean.specs.Effect.{Effect, nothing, statement, ◌>>◌ as ◌▸◌}
use Rattle.flat_core.specs.declared.step.WireId.{WireId}
use Rattle.bit_arith.specs.Built.{Setting}
use Rattle.flat_form.specs.State.{Flattening, wires_so_far}
use Rattle.flat_form.specs.Flat.{flat, on_line, count_statement as counted_too}
use Rattle.flat_form.specs.Names.{AllOf, operands_in}
use Rattle.flat_form.proofs.Goods.{good_statement, good_flat}
use Rattle.flat_typed.specs.Places.{Places, is_part, is_shared, has_wires, part_out, times_in, holds, holders, owners_of, shown}
use Rattle.flat_typed.specs.Relation.{Outside, AllNew}
use Rattle.flat_typed.specs.Done.{StmtBegins, StmtDone, MadeSince, changeable}
use Rattle.flat_typed.specs.Lemmas.{Callable, StmtFine}
use Rattle.flat_typed.specs.Stay.{SomeOf, IsOwner, HadOwner, Stayed, Goes, Keeps}
use Rattle.flat_typed.proofs.Ordered.{clash}
use Rattle.flat_typed.proofs.Moving.{all_more, owns_all}
use Rattle.flat_typed.proofs.Binding.{none_out}
use Rattle.flat_typed.proofs.Using.{touches_none}
use Rattle.flat_typed.proofs.Growing.{touches_then}
use Rattle.flat_typed.proofs.Forgetting.{stands_at}

-- ---- walks

module _ (S : InstanceKey → Signature → Type 0) where
  -- a premise of what a walk gives stands in front of the walk
  pub gives_later : {A H : Type 0} (P : A → Type 0) (w : Walk A) → (H → Gives S P w) → Gives S (λ a. H → P a) w
  gives_later P (answer a) f = f
  gives_later P (broken e) f = tt
  gives_later P (counted w) f = gives_later P w f
  gives_later P (asked k next) f = λ s ok. gives_later P (next s) (λ h. f h s ok)

  pub gives_both : {A : Type 0} (P Q : A → Type 0) (w : Walk A) → Gives S P w → Gives S Q w → Gives S (λ a. P a × Q a) w
  gives_both P Q (answer a) p q = (p, q)
  gives_both P Q (broken e) p q = tt
  gives_both P Q (counted w) p q = gives_both P Q w p q
  gives_both P Q (asked k next) p q = λ s ok. gives_both P Q (next s) (p s ok) (q s ok)

-- ---- places with an owner

pub wired_live : (v : Var) → has_wires v ≡ true → v.consumed ≡ false
wired_live v b = go v.consumed refl
  where
    go : (t : Bool) → v.consumed ≡ t → t ≡ false
    go false e = refl
    go true e = clash (sym b ∙ ap (λ t. not ((t || is_part v) || is_shared v)) e)

-- a wire with an owner is one of the place of a variable with wires of its own
pub some_owner : (W : Places) (all vs : List Var) (w : WireId) (n : ℕ) → ((y : NameId) → part_out all y ≡ None) → AllOf (λ v. has_wires v ≡ true → 1 ≤ times_in w (W v.place) → 1 ≤ n) vs → 1 ≤ holders W all w vs → 1 ≤ n
some_owner W all [] w n o h le = absurd (omega (arith, le))
some_owner W all (v ∷ vs) w n o h le = go (cases_lt 0 (holds W all w v)) (some_owner W all vs w n o h.1)
  where
    one : (t : Bool) → has_wires v ≡ t → 1 ≤ holds W all w v → 1 ≤ n
    one true e l = h.0 e (subst (λ k. 1 ≤ k) (owns_all W all w v (o v.part.name) e (wired_live v e)) l)
    one false e l =
        let z : holds W all w v ≡ 0 = ap (λ t. cond t (times_in w (operands_in (shown W all v))) 0) e in
        absurd (omega (arith, z, l))

    go : (0 < holds W all w v) ⊎ (holds W all w v ≤ 0) → (1 ≤ holders W all w vs → 1 ≤ n) → 1 ≤ n
    go (inl lt) i = one (has_wires v) refl (omega (arith, lt))
    go (inr z) i = i (omega (arith, z, le))

pub owner_holds : (W : Places) (all vs : List Var) (w : WireId) (p : ℕ) → ((y : NameId) → part_out all y ≡ None) → SomeOf (IsOwner p) vs → 1 ≤ times_in w (W p) → 1 ≤ holders W all w vs
owner_holds W all [] w p o h le = absurd h
owner_holds W all (v ∷ vs) w p o (inl i) le =
    let a = owns_all W all w v (o v.part.name) i.wires (wired_live v i.wires) in
    let b : times_in w (W v.place) ≡ times_in w (W p) = ap (λ q. times_in w (W q)) i.place in
    omega (arith, a, b, le)
owner_holds W all (v ∷ vs) w p o (inr i) le = let a = owner_holds W all vs w p o i le in omega (arith, a)

pub owner_has : (Q : Var → Type 0) (R : Type 0) (p : ℕ) (vs : List Var) → SomeOf (IsOwner p) vs → AllOf Q vs → ((v : Var) → IsOwner p v → Q v → R) → R
owner_has Q R p [] h a f = absurd h
owner_has Q R p (v ∷ vs) (inl i) a f = f v i a.0
owner_has Q R p (v ∷ vs) (inr i) a f = owner_has Q R p vs i a.1 f

-- variables that were there keep their places
pub places_made : (n low : ℕ) (W : Places) (vs : List Var) → ((p : ℕ) → low ≤ p → owners p vs ≡ 0) → AllOf (MadeSince n low W) vs
places_made n low W [] h = tt
places_made n low W (v ∷ vs) h = (λ b. inl (below b (cases_lt v.place low)), places_made n low W vs (λ p le. let a = h p le in omega (arith, a)))
  where
    below : has_wires v ≡ true → (v.place < low) ⊎ (low ≤ v.place) → v.place < low
    below b (inl lt) = lt
    below b (inr le) =
        let a = h v.place le in
        let c : owns v.place v ≡ 1 = ap (λ t. cond t 0 (at_place v.place v.place)) (wired_live v b) ∙ ap (λ t. cond t 1 0) (eq-eqb v.place v.place refl) in
        absurd (omega (arith, a, c))

-- ---- a statement on its line

module _ (out : Outside) (sc : Scope) (W : Places) (c : Context) (st : Flattening) (l : ℕ) where
  abbrev its_line : Flattening
  its_line = on_line l (counted_too st)

  pub begins_on_line : (low : ℕ) (others : ℕ → ℕ) → StmtBegins out sc low others W c st → StmtBegins out sc low others W c (on_line l (counted_too st))
  begins_on_line low others b = record {
    good = good_statement l st b.good;
    unmade = b.unmade;
    sole = b.sole;
    stands = stands_at out sc.held W [] c st its_line refl refl refl refl b.stands;
    whole = b.whole;
    block = b.block;
    open_air = b.open_air;
    none = b.none;
  }

  pub done_on_line : (e : Effect) (d : Context) → StmtDone out sc e W c (on_line l (counted_too st)) d → StmtDone out sc (statement l e) W c st d
  done_on_line e d h = record {
    fine = h.fine;
    after = h.after;
    agree = h.agree;
    stands = stands_at out sc.held h.after [] d (flat e its_line) (flat (statement l e) st) refl refl refl refl h.stands;
    whole = h.whole;
    made = h.made;
    none = h.none;
    leaves = record {
      setting = ap (λ (t : Setting). record t { line = st.setting.line }) h.leaves.setting;
      callers = h.leaves.callers;
      blocks = h.leaves.blocks;
      names = h.leaves.names;
    };
    touches = h.touches;
    plain = h.plain;
    unmade = h.unmade;
  }

-- counted in the walk, and on its line in the flat form
pub line_fine : {A : Type 0} (sc : Scope) (c : Context) (m : Check A) (e : Effect) (l : ℕ) → StmtFine sc c m e → StmtFine sc c (count_statement >> m) (statement l e)
unfolding ◌>>◌
line_fine sc c m e l h =
    gives-more (Callable sc) 0
    (λ r. (out : Outside) (low : ℕ) (W : Places) (s : Flattening) → StmtBegins out sc low (λ p. 0) W c s → StmtDone out sc e W c s r.1)
    (λ r. (out : Outside) (low : ℕ) (W : Places) (s : Flattening) → StmtBegins out sc low (λ p. 0) W c s → StmtDone out sc (statement l e) W c s r.1)
    (m c) h (λ r f out low W s b. done_on_line out sc W c s l e r.1 (f out low W (on_line l (counted_too s)) (begins_on_line out sc W c s l low (λ p. 0) b)))

-- ---- one after another

pub sole_now : (low : ℕ) (c : Context) → Sole low (λ p. 0) c → Sole c.next (λ p. 0) c
sole_now low c s = record { grown = omega arith; one = s.one; ahead = s.ahead }

pub sole_since : (low : ℕ) (c d : Context) → Sole low (λ p. 0) c → Sole c.next (λ p. 0) d → Sole low (λ p. 0) d
sole_since low c d s t = record { grown = let a = s.grown in let b = t.grown in omega (arith, a, b); one = t.one; ahead = t.ahead }

pub stayed_then : (c d e : Context) → Sole c.next (λ p. 0) c → Stayed c d → Stayed d e → Stayed c e
stayed_then c d e s a b = record {
  sole = sole_since c.next d e a.sole b.sole;
  owners = all_more (HadOwner d) (HadOwner c) e.vars
      (λ v h w l. owner_has (HadOwner c) (SomeOf (IsOwner v.place) c.vars) v.place d.vars (h w (let g = a.sole.grown in omega (arith, g, l))) a.owners
      (λ u i q. subst (λ p. SomeOf (IsOwner p) c.vars) i.place (q i.wires (let z = i.place in omega (arith, z, l)))))
      b.owners;
}

module _ (out : Outside) (sc : Scope) (low : ℕ) (W : Places) (c d : Context) (s : Flattening) (e : Effect) where
  pub begins_next : StmtBegins out sc low (λ p. 0) W c s → (h : StmtDone out sc e W c s d) → Stayed c d → StmtBegins out sc low (λ p. 0) h.after d (flat e s)
  begins_next b h t = record {
    good = good_flat e s b.good h.fine;
    unmade = h.unmade;
    sole = sole_since low c d b.sole t.sole;
    stands = h.stands;
    whole = h.whole;
    block = subst (λ n. 1 ≤ n) (sym h.leaves.blocks) b.block;
    open_air = λ q r. ap (λ (x : Setting). x.condition) h.leaves.setting ∙ b.open_air q r;
    none = h.none;
  }

  -- a wire that was there, and that the second may change, was one that may be changed before
  pub older : (h : StmtDone out sc e W c s d) → AllOf (λ v. is_part v ≡ false) c.vars → Stayed c d → (w : WireId) → w.number < wires_so_far s → 1 ≤ owners_of h.after d.vars [] w → 1 ≤ owners_of W c.vars [] w
  older h whole t w lt le =
      some_owner h.after d.vars d.vars w (owners_of W c.vars [] w) (λ y. none_out d.vars y h.whole)
      (pair d.vars h.made t.owners) (omega (arith, le))
    where
      one : (v : Var) → MadeSince (wires_so_far s) c.next h.after v → HadOwner c v → has_wires v ≡ true → 1 ≤ times_in w (h.after v.place) → 1 ≤ owners_of W c.vars [] w
      one v m q b l = go (m b)
        where
          go : (v.place < c.next) ⊎ AllNew (wires_so_far s) (h.after v.place) → 1 ≤ owners_of W c.vars [] w
          go (inl p) =
              let a = owner_holds W c.vars c.vars w v.place (λ y. none_out c.vars y whole) (q b p) (subst (λ ps. 1 ≤ times_in w ps) (h.agree v.place p) l) in
              omega (arith, a)
          go (inr new) = let a = new w l in absurd (omega (arith, a, lt))

      pair : (vs : List Var) → AllOf (MadeSince (wires_so_far s) c.next h.after) vs → AllOf (HadOwner c) vs → AllOf (λ v. has_wires v ≡ true → 1 ≤ times_in w (h.after v.place) → 1 ≤ owners_of W c.vars [] w) vs
      pair [] m q = tt
      pair (v ∷ vs) m q = (one v m.0 q.0, pair vs m.1 q.1)

  module _ (f : Effect) (g : Context) where
    pub done_next : StmtBegins out sc low (λ p. 0) W c s → (h : StmtDone out sc e W c s d) → Stayed c d → (k : StmtDone out sc f h.after d (flat e s) g) → Stayed d g → StmtDone out sc (e ▸ f) W c s g
    done_next b h t k u = record {
      fine = (h.fine, k.fine);
      after = k.after;
      agree = λ p l. k.agree p (let a = t.sole.grown in omega (arith, a, l)) ∙ h.agree p l;
      stands = k.stands;
      whole = k.whole;
      made = made g.vars k.made u.owners;
      none = k.none;
      leaves = record {
        setting = k.leaves.setting ∙ h.leaves.setting;
        callers = k.leaves.callers ∙ h.leaves.callers;
        blocks = k.leaves.blocks ∙ h.leaves.blocks;
        names = k.leaves.names ∙ h.leaves.names;
      };
      touches = touches_then (changeable out W c.vars []) (changeable out h.after d.vars []) s.built.draft (flat e s).built.draft (flat f (flat e s)).built.draft h.touches k.touches same;
      plain = λ q w m. h.plain q w (k.plain q w m);
      unmade = k.unmade;
    }
      where
        one : (v : Var) → MadeSince (wires_so_far (flat e s)) d.next k.after v → HadOwner d v → MadeSince (wires_so_far s) c.next k.after v
        one v m q x = go (m x)
          where
            go : (v.place < d.next) ⊎ AllNew (wires_so_far (flat e s)) (k.after v.place) → (v.place < c.next) ⊎ AllNew (wires_so_far s) (k.after v.place)
            go (inr new) = inr (λ w l. let a = new w l in let z = h.touches.grown in omega (arith, a, z))
            go (inl p) =
                owner_has (MadeSince (wires_so_far s) c.next h.after) ((v.place < c.next) ⊎ AllNew (wires_so_far s) (k.after v.place)) v.place d.vars (q x p) h.made
                (λ y i r. from y i (r i.wires))
              where
                from : (y : Var) → IsOwner v.place y → (y.place < c.next) ⊎ AllNew (wires_so_far s) (h.after y.place) → (v.place < c.next) ⊎ AllNew (wires_so_far s) (k.after v.place)
                from y i (inl l) = inl (let z = i.place in omega (arith, z, l))
                from y i (inr new) = inr (subst (AllNew (wires_so_far s)) (ap h.after i.place ∙ sym (k.agree v.place p)) new)

        made : (vs : List Var) → AllOf (MadeSince (wires_so_far (flat e s)) d.next k.after) vs → AllOf (HadOwner d) vs → AllOf (MadeSince (wires_so_far s) c.next k.after) vs
        made [] m q = tt
        made (v ∷ vs) m q = (one v m.0 q.0, made vs m.1 q.1)

        same : (w : WireId) → w.number < wires_so_far s → changeable out W c.vars [] w ≡ false → changeable out h.after d.vars [] w ≡ false
        same w lt = go (out.guarded w)
          where
            go : (x : Bool) → (not x && nat_lt 0 (owners_of W c.vars [] w)) ≡ false → (not x && nat_lt 0 (owners_of h.after d.vars [] w)) ≡ false
            go true z = refl
            go false z = fewer (owners_of h.after d.vars [] w) (owners_of W c.vars [] w) (older h b.whole t w lt) z
              where
                fewer : (m n : ℕ) → (1 ≤ m → 1 ≤ n) → nat_lt 0 n ≡ false → nat_lt 0 m ≡ false
                fewer m n i z = at (cases_lt 0 m)
                  where
                    at : (0 < m) ⊎ (m ≤ 0) → nat_lt 0 m ≡ false
                    at (inl lt) = clash (sym (lt-ltb 0 n (i (omega (arith, lt)))) ∙ z)
                    at (inr le) = ap (λ k. nat_lt 0 k) (let e : m ≡ 0 = omega (arith, le) in e)

abbrev pub Does : Scope → Context → Effect → Context → Type 0
Does sc c e d = (out : Outside) (low : ℕ) (W : Places) (s : Flattening) → StmtBegins out sc low (λ p. 0) W c s → StmtDone out sc e W c s d

-- two walks in turn, and two effects
pub then_fine : (I : List Var → Type 0) (sc : Scope) (c : Context) (m n : Check (Unit {0})) (e f : Effect) → I c.vars → StmtFine sc c m e → ((d : Context) → I d.vars → StmtFine sc d n f) → Keeps I sc m → Keeps I sc n → StmtFine sc c (m >> n) (e ▸ f)
unfolding ◌>>◌
then_fine I sc c m n e f i h k t u =
    gives-bind (Callable sc) 0
    (λ r. Does sc c e r.1 × Goes I c r.1) (λ r. Does sc c (e ▸ f) r.1)
    (m c) (λ r. n r.1) (gives_both (Callable sc) (λ r. Does sc c e r.1) (λ r. Goes I c r.1) (m c) h (t c i))
    (λ r x. gives-more (Callable sc) 0
    (λ q. Does sc r.1 f q.1 × Goes I r.1 q.1) (λ q. Does sc c (e ▸ f) q.1)
    (n r.1) (gives_both (Callable sc) (λ q. Does sc r.1 f q.1) (λ q. Goes I r.1 q.1) (n r.1) (k r.1 x.1.holds) (u r.1 x.1.holds))
    (λ q y out low W s b.
    let first = x.0 out low W s b in
    let there = x.1.stayed (sole_now low c b.sole) in
    let next = begins_next out sc low W c r.1 s e b first there in
    let second = y.0 out low first.after (flat e s) next in
    done_next out sc low W c r.1 s e f q.1 b first there second (y.1.stayed (sole_now low r.1 next.sole))))

pub then_keeps : {A B : Type 0} (I : List Var → Type 0) (sc : Scope) (m : Check A) (n : Check B) → Keeps I sc m → Keeps I sc n → Keeps I sc (m >> n)
unfolding ◌>>◌
then_keeps I sc m n t u c i =
    gives-bind (Callable sc) 0 (λ r. Goes I c r.1) (λ r. Goes I c r.1) (m c) (λ r. n r.1) (t c i)
    (λ r x. gives-more (Callable sc) 0 (λ q. Goes I r.1 q.1) (λ q. Goes I c q.1) (n r.1) (u r.1 x.holds)
    (λ q y. record { holds = y.holds; stayed = λ s. let a = x.stayed s in stayed_then c r.1 q.1 s a (y.stayed (sole_now c.next r.1 a.sole)) }))

-- ---- nothing

pub done_nothing : (out : Outside) (sc : Scope) (low : ℕ) (W : Places) (c : Context) (s : Flattening) → StmtBegins out sc low (λ p. 0) W c s → StmtDone out sc nothing W c s c
done_nothing out sc low W c s b = record {
  fine = tt;
  after = W;
  agree = λ p l. refl;
  stands = b.stands;
  whole = b.whole;
  made = places_made (wires_so_far s) c.next W c.vars (λ p le. let a = b.sole.ahead p le in omega (arith, a));
  none = b.none;
  leaves = record { setting = refl; callers = refl; blocks = refl; names = refl };
  touches = touches_none (changeable out W c.vars []) s.built.draft;
  plain = λ q w m. m;
  unmade = b.unmade;
}

pub nothing_fine : (sc : Scope) (c : Context) → StmtFine sc c pass nothing
nothing_fine sc c out low W s b = done_nothing out sc low W c s b

pub stayed_here : (c : Context) → Sole c.next (λ p. 0) c → Stayed c c
stayed_here c s = record { sole = s; owners = each c.vars (λ v h. h) }
  where
    each : (vs : List Var) → ((v : Var) → SomeOf (IsOwner v.place) vs → SomeOf (IsOwner v.place) c.vars) → AllOf (HadOwner c) vs
    each [] h = tt
    each (v ∷ vs) h = (λ w l. h v (inl (record { wires = w; place = refl })), each vs (λ u i. h u (inr i)))

pub pass_keeps : (I : List Var → Type 0) (sc : Scope) → Keeps I sc pass
pass_keeps I sc c i = record { holds = i; stayed = λ s. stayed_here c s }
