-- The end of a body: behind its last statement, where nothing Linear is left, it has done what a call relies on.
use Rattle.std.proofs.Common.{◌≡◌, ◌⊎◌, inl, inr, ℕ, ◌+◌, ◌≤◌, ◌<◌, Bool, true, false, cond, not, ◌&&◌, List, [], ◌∷◌, ◌++◌, length, map, reverse, refl, sym, ap, ◌∙◌, subst, arith, nat_lt}
use Rattle.std.specs.Prelude.{ℤ, Some}
use Rattle.std.proofs.lemmas.List.{append-nil}
use Rattle.std.proofs.lemmas.Bool.{cases_lt, lt-ltb}
use Rattle.silq_tree.specs.declared.node.NameId.{NameId}
use Rattle.silq_tree.specs.Syntax.{Expressions, Function}
use Rattle.silq_types.specs.declared.types.Ty.{Ty}
use Rattle.silq_types.specs.declared.need.Need.TheVariants as needs
use Rattle.silq_types.specs.declared.built_in.BuiltIn.{BuiltIn}
use Rattle.silq_types.specs.declared.values.Value.{Value}
use Rattle.silq_types.specs.declared.values.Var.{Var}
use Rattle.silq_types.specs.Types.{is_held}
use Rattle.silq_mean.specs.Written.{Header}
use Rattle.check_scope.specs.Context.{Scope, Context, find_var}
use Rattle.check_scope.specs.declared.uses.Use.{Use}
use Rattle.check_fun.specs.Statement.{is_live_linear}
use Rattle.check_fun.specs.Program.{returned_as}
use Rattle.silq_mean.specs.declared.receiver.Receiver.{Receiver}
use Rattle.silq_mean.specs.Effect.{Effect}
use Rattle.silq_mean.specs.Meaning as meanings
use Rattle.flat_core.specs.declared.step.WireId.{WireId}
use Rattle.flat_core.specs.declared.step.End.TheVariants.{Dropped}
use Rattle.flat_core.specs.Form.{DraftForm}
use Rattle.flat_core.specs.Label.{wire_in}
use Rattle.bit_arith.specs.Calls.{IsTarget}
use Rattle.flat_form.specs.declared.known.Known.{Known}
use Rattle.flat_form.specs.declared.known.Known.TheVariants.{Shown, Absent}
use Rattle.flat_form.specs.State.{Caller, Flattening, wires_so_far, began_or}
use Rattle.flat_form.specs.Flat.{flat, known_in}
use Rattle.flat_form.specs.Fine.{Fine}
use Rattle.flat_form.specs.Names.{AllOf, names}
use Rattle.flat_typed.specs.Places.{Places, is_part, is_shared, part_out, less_part, bits_for, in_order, shown, carriers, owners_of, linear_owners}
use Rattle.flat_typed.specs.Footprint.{used_wires, consumed_wires, Owed, Touches, StaysPlain, Unmade}
use Rattle.flat_typed.specs.Relation.{Outside, Stands, IsTakenOver}
use Rattle.flat_typed.specs.Done.{MadeSince, StmtBegins, StmtDone, changeable}
use Rattle.flat_typed.specs.Calls.{Three, carried, ArgsTells, first_context, named_times, quantum_times, BodyDone}
use Rattle.flat_typed.specs.Scopes.{as_meaning, scope_for}
use Rattle.flat_typed.specs.Stay.{HadOwner, Stayed}
use Rattle.flat_typed.specs.Lemmas.{uses_by}
use Rattle.flat_typed.specs.Bodies.{TakesResults, ShowsConsts}
use Rattle.flat_typed.proofs.Ordered.{clash}
use Rattle.flat_typed.proofs.Growing.{touches_then}
use Rattle.flat_typed.proofs.Closing.{no_linear}
use Rattle.flat_typed.proofs.Footprints.{consumed_may_change}
use Rattle.flat_typed.proofs.Turns.{older, sole_now}
use Rattle.flat_typed.proofs.Reached.{whole_left, consumed_touches}
use Rattle.flat_typed.proofs.Lone.{each_found}
use Rattle.flat_typed.proofs.Parts.{shows_its_place, whole_part}
use Rattle.flat_typed.proofs.Binding.{none_out}
use Rattle.flat_typed.proofs.HeldStay.{HeldFirst}
use Rattle.flat_typed.proofs.LastTold.{LastTold}
use Rattle.flat_typed.proofs.Results.{Before, is_new}
use Rattle.flat_typed.proofs.ReturnedValues.{all_carried, named_are, named_moved, linear_are, results_are, unguarded_values}

-- what may change is owned, and not guarded
pub changeable_owned : (out : Outside) (W : Places) (vars : List Var) (w : WireId) → changeable out W vars [] w ≡ true → 1 ≤ owners_of W vars [] w
changeable_owned out W vars w e = go (cases_lt 0 (owners_of W vars [] w))
  where
    and_right : (a b : Bool) → (a && b) ≡ true → b ≡ true
    and_right true b e = e
    and_right false b e = clash (sym e)

    go : (0 < owners_of W vars [] w) ⊎ (owners_of W vars [] w ≤ 0) → 1 ≤ owners_of W vars [] w
    go (inl l) = omega (arith, l)
    go (inr z) =
        let o : owners_of W vars [] w ≡ 0 = omega (arith, z) in
        clash (sym (and_right (not (out.guarded w)) (nat_lt 0 (owners_of W vars [] w)) e) ∙ ap (λ k. nat_lt 0 k) o)

-- what may be changed later might have been changed before
still_changeable : (out : Outside) (m n : ℕ) (w : WireId) → (1 ≤ m → 1 ≤ n) → (not (out.guarded w) && nat_lt 0 n) ≡ false → (not (out.guarded w) && nat_lt 0 m) ≡ false
still_changeable out m n w f = go (out.guarded w)
  where
    fewer : nat_lt 0 n ≡ false → (0 < m) ⊎ (m ≤ 0) → nat_lt 0 m ≡ false
    fewer z (inl lt) = clash (sym (lt-ltb 0 n (f (omega (arith, lt)))) ∙ z)
    fewer z (inr le) = ap (λ k. nat_lt 0 k) (let e : m ≡ 0 = omega (arith, le) in e)

    go : (x : Bool) → (not x && nat_lt 0 n) ≡ false → (not x && nat_lt 0 m) ≡ false
    go true z = refl
    go false z = fewer z (cases_lt 0 m)

module _ (words : List (NameId × BuiltIn)) (before : List Function) (taker : Ty → Receiver) (takes : TakesResults taker) (f : Function) (statics : List ℤ) (h : Header) (es : Expressions) where
  abbrev pub sc : Scope
  sc = scope_for words before f statics h

  abbrev pub start : Context
  start = first_context f h

  abbrev takers : List Receiver
  takers = map taker h.results

  abbrev E : Effect
  E = meanings.exprs es (as_meaning taker sc) needs.Consumed [] takers

  module _ (out : Outside) (W : Places) (s0 : Flattening) (b0 : StmtBegins out sc (length h.params) (λ p. 0) W start s0) (e1 : Effect) (c1 : Context) (F : StmtDone out sc e1 W start s0 c1) (G : Stayed start c1) (low : ℕ) (s2 : Flattening) (b2 : StmtBegins out sc low (λ p. 0) F.after c1 s2)
      (draft2 : s2.built.draft ≡ (flat e1 s0).built.draft) (callers2 : s2.callers ≡ (flat e1 s0).callers) (vs : List Value) (d : Context) (told : LastTold sc taker es c1 vs d) (closed : AllOf (λ v. is_live_linear v ≡ false) d.vars) where
    abbrev V : Places
    V = F.after

    abbrev us : List Use
    us = uses_by es sc c1 takers

    abbrev tells : ArgsTells out sc takers E V [] us c1 s2 vs d
    tells = told.does out low V s2 b2

    abbrev U : Places
    U = tells.done.after

    abbrev ks : List Known
    ks = tells.done.answers

    abbrev s3 : Flattening
    s3 = flat E s2

    abbrev n : ℕ
    n = wires_so_far s0

    abbrev m : ℕ
    m = wires_so_far s2

    later : n ≤ m
    later = subst (λ (x : DraftForm). n ≤ length x.wires) (sym draft2) F.touches.grown

    taken : Three (IsTakenOver U (used_wires V c1.vars us) (consumed_wires V c1.vars us) m c1.next) takers vs ks
    taken = tells.done.each

    owned : (w : WireId) → consumed_wires V c1.vars us w ≡ true → 1 ≤ owners_of V c1.vars [] w
    owned w e = changeable_owned out V c1.vars w (consumed_may_change out sc.held V [] c1 s2 us b2.stands (told.there V b2.stands.parts) w e)

    facts : (w : WireId) → 1 ≤ owners_of V c1.vars [] w → AllOf (Before W V n start c1.vars w) c1.vars
    facts w le = each c1.vars F.whole F.made G.owners (b2.stands.shared w le)
      where
        each : (xs : List Var) → AllOf (λ v. is_part v ≡ false) xs → AllOf (MadeSince n start.next V) xs → AllOf (HadOwner start) xs → AllOf (λ v. is_shared v ≡ true → names (shown V c1.vars v) w ≡ false) xs → AllOf (Before W V n start c1.vars w) xs
        each [] a b c e = tt
        each (x ∷ xs) a b c e = (record { whole = a.0; made = b.0; had = c.0; shares = e.0 }, each xs a.1 b.1 c.1 e.1)

    -- the values carry all that they show
    stands3 : Stands out sc.held U vs d s3
    stands3 =
        subst (λ l. Stands out sc.held U l d s3)
        (append-nil (carried takers vs) ∙ all_carried f.params h.params taker takes W V U (used_wires V c1.vars us) (consumed_wires V c1.vars us) n m c1 h.results vs ks taken)
        tells.done.stands

    named : (w : WireId) → named_times ks w ≡ carriers U w vs
    named w = named_are f.params h.params taker takes W V U (used_wires V c1.vars us) (consumed_wires V c1.vars us) n m c1 w h.results vs ks taken

    owner : (w : WireId) → 1 ≤ named_times ks w → 1 ≤ owners_of U d.vars vs w
    owner w le = let a = named w in omega (arith, a, le)

    owed3 : (w : WireId) → (1 ≤ linear_owners U d.vars vs w) ⊎ (out.answered w ≡ true) → (1 ≤ quantum_times (returned_as h.params h.results vs) ks w) ⊎ (out.answered w ≡ true)
    owed3 w (inr a) = inr a
    owed3 w (inl le) =
        let z = no_linear U d.vars w d.vars closed in
        let a = linear_are f.params h.params taker takes W V U (used_wires V c1.vars us) (consumed_wires V c1.vars us) n m c1 w h.results vs ks taken told.plain in
        inl (omega (arith, z, a, le))

    touches3 : Touches (changeable out W start.vars []) s0.built.draft s3.built.draft
    touches3 =
        touches_then (changeable out W start.vars []) (changeable out V c1.vars []) s0.built.draft (flat e1 s0).built.draft s3.built.draft F.touches
        (subst (λ (x : DraftForm). Touches (changeable out V c1.vars []) x s3.built.draft) draft2 (consumed_touches out sc low V c1 s2 us s3 b2 (told.there V b2.stands.parts) tells.done.touches))
        (λ w lt. still_changeable out (owners_of V c1.vars [] w) (owners_of W start.vars [] w) w (older out sc (length h.params) W start c1 s0 e1 F b0.whole G w lt))

    ours : (w : WireId) → 1 ≤ named_times ks w → (changeable out W start.vars [] w ≡ true) ⊎ (n ≤ w.number)
    ours w le = go (named_moved f.params h.params taker takes W V U (used_wires V c1.vars us) (consumed_wires V c1.vars us) n m c1 w h.results vs ks taken le) (cases_lt w.number n)
      where
        before_that : changeable out V c1.vars [] w ≡ true → w.number < n → (b : Bool) → changeable out W start.vars [] w ≡ b → b ≡ true
        before_that e lt true q = refl
        before_that e lt false q =
            clash (sym e ∙ still_changeable out (owners_of V c1.vars [] w) (owners_of W start.vars [] w) w (older out sc (length h.params) W start c1 s0 e1 F b0.whole G w lt) q)

        go : (consumed_wires V c1.vars us w ≡ true) ⊎ (m ≤ w.number) → (w.number < n) ⊎ (n ≤ w.number) → (changeable out W start.vars [] w ≡ true) ⊎ (n ≤ w.number)
        go x (inr k) = inr k
        go (inr k) (inl lt) = absurd (omega (arith, k, lt, later))
        go (inl e) (inl lt) = inl (before_that (consumed_may_change out sc.held V [] c1 s2 us b2.stands (told.there V b2.stands.parts) w e) lt (changeable out W start.vars [] w) refl)

    -- whatever effect leads to the same state but for the line
    pub body_done : (e : Effect) (u : Flattening) → Fine e s0 → flat e s0 ≡ u → u.values ≡ s3.values → u.built.draft ≡ s3.built.draft → u.setting ≡ s0.setting → u.callers ≡ s3.callers → BodyDone out f h e W s0 (returned_as h.params h.results vs)
    body_done e u fine becomes values draft setting callers = record {
      fine = fine;
      answers = ks;
      values = ap (λ (x : Flattening). x.values) becomes ∙ (values ∙ (tells.done.values ∙ (ap (λ l. reverse ks ++ l) b2.none ∙ append-nil (reverse ks))));
      each = results_are f.params h.params taker takes W V U (used_wires V c1.vars us) (consumed_wires V c1.vars us) n m c1 (λ w. owners_of U d.vars (carried takers vs ++ []) w) h.results vs ks taken tells.given told.plain G.sole.grown (told.places (sole_now low c1 b2.sole))
          (λ t v k had is none w e. is_new f.params h.params taker takes W V U (used_wires V c1.vars us) (consumed_wires V c1.vars us) n m c1 w F.whole (facts w) (owned w) later tells.done.agree t v k had is none e)
          (λ p lt. tells.done.agree p (let g = G.sole.grown in omega (arith, g, lt)) ∙ F.agree p lt);
      one = λ w. let a = stands3.one w in let b = named w in omega (arith, a, b);
      free = λ w le. subst (λ (x : DraftForm). IsTarget x w) (sym its) (stands3.free w (owner w le));
      untold = λ w le. subst (λ (x : DraftForm). (wire_in x.wires w).ending ≡ Dropped) (sym its) (stands3.untold w (owner w le));
      unguarded = λ w le. unguarded_values out.guarded U w vs stands3.carried (let a = named w in omega (arith, a, le));
      owed = λ w o. owed3 w (stands3.owed w (subst (λ (x : DraftForm). Owed x w) its o));
      setting = ap (λ (x : Flattening). x.setting) becomes ∙ setting;
      callers = ap (λ (x : Flattening). x.callers) becomes ∙ (callers ∙ (tells.done.leaves.callers ∙ (callers2 ∙ F.leaves.callers)));
      touches = subst (λ (x : DraftForm). Touches (changeable out W start.vars []) s0.built.draft x) (sym its) touches3;
      plain = λ q. subst (λ (x : DraftForm). StaysPlain s0.built.draft x) (sym its) (λ w k. F.plain q w (subst (λ (x : DraftForm). StaysPlain x s3.built.draft) draft2 (tells.done.plain q) w k));
      unmade = subst Unmade (sym its) tells.done.unmade;
      ours = ours;
      began = λ k le b. tells.began k (omega (arith, le, later)) (subst (λ (cs : List Caller). k ≤ began_or k cs) (sym (callers2 ∙ F.leaves.callers)) b);
    }
      where
        its : (flat e s0).built.draft ≡ s3.built.draft
        its = ap (λ (x : Flattening). x.built.draft) becomes ∙ draft

    -- ---- const parameters

    whole3 : AllOf (λ v. is_part v ≡ false) d.vars
    whole3 = whole_left c1.vars d.vars (told.left V b2.stands.parts) F.whole

    shown_in : (u : Flattening) → u.env ≡ s3.env → AllOf (λ (v : Var). (v.consumed ≡ false) → known_in u v.part.name ≡ Shown (bits_for U v)) d.vars
    shown_in u e = each d.vars (each_found d.vars stands3.differ) whole3
      where
        each : (vs : List Var) → AllOf (λ (v : Var). find_var d.vars v.part ≡ Some v) vs → AllOf (λ v. is_part v ≡ false) vs → AllOf (λ (v : Var). (v.consumed ≡ false) → known_in u v.part.name ≡ Shown (bits_for U v)) vs
        each [] a b = tt
        each (v ∷ vs) a b = (
          λ live.
              shows_its_place U d.vars u v.part.name v (ap in_order e ∙ stands3.env) stands3.differ (ap (find_var d.vars) (sym (whole_part v b.0)) ∙ a.0)
              ∙ (ap (λ t. cond t Absent (less_part (part_out d.vars v.part.name) (bits_for U v))) live ∙ ap (λ o. less_part o (bits_for U v)) (none_out d.vars v.part.name whole3)),
          each vs a.1 b.1,
        )

    pub consts_stay : (e : Effect) (u : Flattening) → flat e s0 ≡ u → u.env ≡ s3.env → HeldFirst start.vars c1.vars → AllOf (λ v. v.place < length h.params) start.vars → AllOf (λ v. v.consumed ≡ false) start.vars → ShowsConsts f h W (flat e s0)
    consts_stay e u becomes env held below live = subst (ShowsConsts f h W) (sym becomes) (each start.vars d.vars (told.held start.vars held) below live (shown_in u env))
      where
        same_bits : (v : Var) → v.place < length h.params → bits_for U v ≡ bits_for W v
        same_bits v lt = ap (λ ps. record { classical = v.ty.classical; shape = v.ty.shape; operands = ps; own = true; began = 0 }) (tells.done.agree v.place (let g = G.sole.grown in omega (arith, g, lt)) ∙ F.agree v.place lt)

        each : (vs ws : List Var) → HeldFirst vs ws → AllOf (λ v. v.place < length h.params) vs → AllOf (λ v. v.consumed ≡ false) vs → AllOf (λ (v : Var). (v.consumed ≡ false) → known_in u v.part.name ≡ Shown (bits_for U v)) ws
            → AllOf (λ v. is_held v.origin ≡ true → known_in u v.part.name ≡ Shown (bits_for W v)) vs
        each [] ws k b l a = tt
        each (v ∷ vs) [] k b l a = absurd k
        each (v ∷ vs) (w ∷ ws) k b l a = (
          λ q. subst (λ (x : Var). (x.consumed ≡ false) → known_in u x.part.name ≡ Shown (bits_for U x)) (k.0 q) a.0 l.0 ∙ ap Shown (same_bits v b.0),
          each vs ws k.1 b.1 l.1 a.1,
        )
