-- What an expression leaves to the next one: from where that begins, and what is known of new wires.
use Rattle.std.proofs.Common.{◌≡◌, ◌⊎◌, inl, inr, ℕ, ◌+◌, ◌≤◌, ◌<◌, Bool, true, false, ◌&&◌, ◌||◌, not, List, [], ◌∷◌, refl, sym, ap, ap₂, ◌∙◌, subst, arith}
use Rattle.std.specs.Prelude.{Option, Some, None}
use Rattle.std.proofs.lemmas.Bool.{cases_lt, ne_eqb}
use Rattle.silq_tree.specs.declared.node.NameId.{NameId}
use Rattle.silq_tree.specs.Syntax.{Expression}
use Rattle.silq_types.specs.declared.types.Ty.{Ty}
use Rattle.silq_types.specs.declared.need.Need.{Need}
use Rattle.silq_types.specs.declared.signature.InstanceKey.{InstanceKey}
use Rattle.silq_types.specs.declared.signature.Signature.{Signature}
use Rattle.silq_types.specs.declared.values.Part.{Part}
use Rattle.silq_types.specs.declared.values.Value.{Value}
use Rattle.silq_types.specs.declared.values.Var.{Var}
use Rattle.silq_mean.specs.Written.{is_empty}
use Rattle.silq_mean.specs.Effect.{Effect}
use Rattle.silq_mean.specs.Meaning as meanings
use Rattle.silq_mean.specs.declared.receiver.Receiver.{Receiver}
use Rattle.check_scope.specs.declared.uses.Use.{Use}
use Rattle.check_scope.specs.Walk.{Walk, answer, broken, counted, asked}
use Rattle.check_scope.specs.Context.{Scope, Context, indices, variable, find_var}
use Rattle.silq_types.specs.Calls.{is_consumed}
use Rattle.check_scope.specs.Uses.{uses, consume_and_hold}
use Rattle.check_expr.specs.Expression.{is_tuple, expr}
use Rattle.check_expr.specs.Owners.{owned, handed, Sole, Gives}
use Rattle.check_expr.proofs.Owners.{gives-more, o_more, o_expr}
use Rattle.flat_core.specs.declared.step.WireId.{WireId}
use Rattle.bit_arith.specs.declared.operand.Operand.{Operand}
use Rattle.bit_arith.specs.Calls.{among}
use Rattle.flat_form.specs.declared.known.Known.{Known}
use Rattle.flat_form.specs.declared.known.Known.TheVariants.{Static, Shown, Lent, Absent}
use Rattle.flat_form.specs.State.{Caller, Flattening, wires_so_far, wires_in, part_of, operands_of}
use Rattle.flat_form.specs.Flat.{flat}
use Rattle.flat_form.specs.Names.{AllOf, CallerOf, names, operands_in}
use Rattle.flat_form.specs.Good.{Good, IsKnown}
use Rattle.flat_form.proofs.Goods.{good_flat}
use Rattle.flat_typed.specs.Places.{Places, with_place, is_part, is_shared, shown, times_in, owners_of}
use Rattle.flat_typed.specs.Footprint.{wires_for, wires_of_part, used_wires, consumed_wires, Within, NoneNames}
use Rattle.flat_typed.specs.Relation.{Outside, Stands, FitsPart}
use Rattle.flat_typed.specs.Scopes.{as_meaning, NoStatics}
use Rattle.flat_typed.specs.Uses.{IsThere}
use Rattle.flat_typed.specs.Done.{Counted, Begins, ExprDone, ExprTells, EndsDropped}
use Rattle.flat_typed.specs.Lemmas.{Callable, ExpressionIsFine}
use Rattle.flat_typed.proofs.Ordered.{clash}
use Rattle.flat_typed.proofs.Moving.{found_all, all_more}
use Rattle.flat_typed.proofs.Owning.{no_times, among_times}
use Rattle.flat_typed.proofs.Spans.{part_at_most}
use Rattle.flat_typed.proofs.Apart.{used_part, wires_are}
use Rattle.flat_typed.proofs.Placing.{KnowsNone, place_other}
use Rattle.flat_typed.proofs.Taking.{Around}
use Rattle.flat_typed.proofs.Tame.{AllLeft, FindLeft, find_left, all_there_left}
use Rattle.flat_typed.proofs.Footprints.{operands_apart}
use Rattle.flat_typed.proofs.Leaving.{k_any}
use Rattle.flat_typed.proofs.Turns.{gives_later, gives_both}
use Rattle.flat_typed.proofs.Reached.{Told, expression_tells}
use Rattle.flat_typed.proofs.Falling.{OnePart, Below, left_owners, live_below, values_below, shown_at_most, owners_fall, known_none, known_unnamed, order_of_env, vars_none}
use Rattle.flat_typed.proofs.Spending.{Gone, none_twice}
use Rattle.flat_typed.proofs.Gone.{uses_are_gone}
use Rattle.flat_typed.proofs.Lasting.{expr_lasts}
use Rattle.flat_typed.proofs.Lone.{lone_stays}

-- ---- what a walk tells

pub record Facts (sc : Scope) (taker : Ty → Receiver) (need : Need) (wants : List Ty) (e : Expression) (c : Context) (vs : List Value) (d : Context) : Type 0 where
  pub tells : (out : Outside) (low : ℕ) (others : ℕ → ℕ) (W : Places) (under : List Value) (s : Flattening) → Begins out sc low others W under (uses e sc c.vars need) c s
      → ExprTells out sc need wants (meanings.expr e (as_meaning taker sc) need) W under (uses e sc c.vars need) c s vs d
  pub told : Told sc need e c d
  pub left : AllLeft c.vars d.vars
  pub gone : (W : Places) → AllOf (FitsPart W c.vars) c.vars → AllOf (Gone d.vars) (uses e sc c.vars need)
  pub sole : (low : ℕ) (others : ℕ → ℕ) → Sole low others c → Sole low (λ p. others p + handed need p vs) d

gives_all : {A B : Type 0} (S : InstanceKey → Signature → Type 0) (P : B → A → Type 0) (w : Walk A) → ((b : B) → Gives S (P b) w) → Gives S (λ a. (b : B) → P b a) w
gives_all S P (answer a) h = h
gives_all S P (broken e) h = tt
gives_all S P (counted w) h = gives_all S P w h
gives_all S P (asked k next) h = λ s ok. gives_all S P (next s) (λ b. h b s ok)

pub expr_sole : (e : Expression) (sc : Scope) (need : Need) (wants : List Ty) (c : Context) → Gives (Callable sc) (λ r. (b : ℕ × (ℕ → ℕ)) → Sole b.0 b.1 c → Sole b.0 (λ p. b.1 p + handed need p r.0) r.1) (expr e sc need wants c)
expr_sole e sc need wants c =
    gives_all (Callable sc) (λ (b : ℕ × (ℕ → ℕ)) r. Sole b.0 b.1 c → Sole b.0 (λ p. b.1 p + handed need p r.0) r.1) (expr e sc need wants c) (λ b.
    gives_later (Callable sc) (λ r. Sole b.0 (λ p. b.1 p + handed need p r.0) r.1) (expr e sc need wants c) (λ h.
    (o_expr (Callable sc) b.0 e b.1 sc (λ k s q. q.1) need wants).runs c h))

pub expression_facts : (e : Expression) → ExpressionIsFine e → (sc : Scope) (taker : Ty → Receiver) (need : Need) (wants : List Ty) (c : Context) → is_tuple e ≡ false → NoStatics sc c.vars
    → Gives (Callable sc) (λ r. Facts sc taker need wants e c r.0 r.1) (expr e sc need wants c)
expression_facts e fine sc taker need wants c t free =
    gives-more (Callable sc) 0 (λ r. Tells r.0 r.1 × (Told sc need e c r.1 × (AllLeft c.vars r.1.vars × (IsGone r.1 × Soles r.0 r.1)))) (λ r. Facts sc taker need wants e c r.0 r.1) (expr e sc need wants c)
    (gives_both (Callable sc) (λ r. Tells r.0 r.1) (λ r. Told sc need e c r.1 × (AllLeft c.vars r.1.vars × (IsGone r.1 × Soles r.0 r.1))) (expr e sc need wants c) (fine sc taker need wants c t free)
    (gives_both (Callable sc) (λ r. Told sc need e c r.1) (λ r. AllLeft c.vars r.1.vars × (IsGone r.1 × Soles r.0 r.1)) (expr e sc need wants c) (expression_tells e sc need wants c t free)
    (gives_both (Callable sc) (λ r. AllLeft c.vars r.1.vars) (λ r. IsGone r.1 × Soles r.0 r.1) (expr e sc need wants c) (expr_lasts (Callable sc) e sc need wants c)
    (gives_both (Callable sc) (λ r. IsGone r.1) (λ r. Soles r.0 r.1) (expr e sc need wants c) (uses_are_gone (Callable sc) e sc need wants c t free) (expr_sole e sc need wants c)))))
    (λ r h. record { tells = h.0; told = h.1.0; left = h.1.1.0; gone = h.1.1.1.0; sole = λ low others. h.1.1.1.1 (low, others) })
  where
    Tells : List Value → Context → Type 0
    Tells vs d =
        (out : Outside) (low : ℕ) (others : ℕ → ℕ) (W : Places) (under : List Value) (s : Flattening) → Begins out sc low others W under (uses e sc c.vars need) c s
        → ExprTells out sc need wants (meanings.expr e (as_meaning taker sc) need) W under (uses e sc c.vars need) c s vs d

    IsGone : Context → Type 0
    IsGone d = (W : Places) → AllOf (FitsPart W c.vars) c.vars → AllOf (Gone d.vars) (uses e sc c.vars need)

    Soles : List Value → Context → Type 0
    Soles vs d = (b : ℕ × (ℕ → ℕ)) → Sole b.0 b.1 c → Sole b.0 (λ p. b.1 p + handed need p vs) d

-- in a walk, whether or not a tuple stands there
pub facts_here : (e : Expression) → ExpressionIsFine e → (sc : Scope) (taker : Ty → Receiver) (need : Need) (wants : List Ty) (c : Context) → NoStatics sc c.vars
    → Gives (Callable sc) (λ r. is_tuple e ≡ false → Facts sc taker need wants e c r.0 r.1) (expr e sc need wants c)
facts_here e fine sc taker need wants c free = go (is_tuple e) refl
  where
    go : (t : Bool) → is_tuple e ≡ t → Gives (Callable sc) (λ r. is_tuple e ≡ false → Facts sc taker need wants e c r.0 r.1) (expr e sc need wants c)
    go true t = (o_more (Callable sc) 0 (k_any (Callable sc) 0 {P = λ d. d ≡ c} (expr e sc need wants)) (λ vs d h z. clash (sym t ∙ z))).runs c refl
    go false t = gives-more (Callable sc) 0 (λ r. Facts sc taker need wants e c r.0 r.1) (λ r. is_tuple e ≡ false → Facts sc taker need wants e c r.0 r.1) (expr e sc need wants c) (expression_facts e fine sc taker need wants c t free) (λ r h z. h)

-- ---- variables that are left

pub below_left : (n : ℕ) (vs ws : List Var) → AllLeft vs ws → AllOf (Below n) vs → AllOf (Below n) ws
below_left n [] [] l h = tt
below_left n [] (w ∷ ws) l h = absurd l
below_left n (v ∷ vs) [] l h = absurd l
below_left n (v ∷ vs) (w ∷ ws) l h = (λ e. let a = h.0 (l.0.live e) in let q = l.0.place in omega (arith, a, q), below_left n vs ws l.1 h.1)

abbrev PartBelow : ℕ → Var → Type 0
PartBelow n v = is_part v ≡ true → v.place < n

pub placed_left : (n : ℕ) (vs ws : List Var) → AllLeft vs ws → AllOf (PartBelow n) vs → AllOf (PartBelow n) ws
placed_left n [] [] l h = tt
placed_left n [] (w ∷ ws) l h = absurd l
placed_left n (v ∷ vs) [] l h = absurd l
placed_left n (v ∷ vs) (w ∷ ws) l h = (λ e. let a = h.0 (ap (λ (p : Part). not (is_empty (indices p))) (sym l.0.part) ∙ e) in let q = l.0.place in omega (arith, a, q), placed_left n vs ws l.1 h.1)

pub placed_more : (n m : ℕ) (vs : List Var) → n ≤ m → AllOf (PartBelow n) vs → AllOf (PartBelow m) vs
placed_more n m [] le h = tt
placed_more n m (v ∷ vs) le h = (λ e. let a = h.0 e in omega (arith, a, le), placed_more n m vs le h.1)

whole_now : (vs ws : List Var) → AllLeft vs ws → AllOf (λ (u : Var). is_part u ≡ false) vs → AllOf (λ (u : Var). is_part u ≡ false) ws
whole_now [] [] l h = tt
whole_now [] (w ∷ ws) l h = absurd l
whole_now (v ∷ vs) [] l h = absurd l
whole_now (v ∷ vs) (w ∷ ws) l h = (ap (λ (p : Part). not (is_empty (indices p))) l.0.part ∙ h.0, whole_now vs ws l.1 h.1)

pub one_left : (vs ws : List Var) → AllLeft vs ws → OnePart vs → OnePart ws
one_left [] [] l h = tt
one_left [] (w ∷ ws) l h = absurd l
one_left (v ∷ vs) [] l h = absurd l
one_left (v ∷ vs) (w ∷ ws) l h = (λ e. whole_now vs ws l.1 (h.0 (ap (λ (p : Part). not (is_empty (indices p))) (sym l.0.part) ∙ e)), one_left vs ws l.1 h.1)

-- parts are those of their variables where a later place shows something else
fits_placed : (U : Places) (n p : ℕ) (ps : List Operand) (all vs : List Var) → n ≤ p → AllOf (Below n) all → AllOf (PartBelow n) vs → AllOf (FitsPart U all) vs → AllOf (FitsPart (with_place U p ps) all) vs
fits_placed U n p ps all [] le b h f = tt
fits_placed U n p ps all (v ∷ vs) le b h f = (one, fits_placed U n p ps all vs le b h.1 f.1)
  where
    one : FitsPart (with_place U p ps) all v
    one i =
        let a = f.0 i in
        let x = h.0 i in
        let y = found_all (Below n) all (variable v.part.name) a.0 a.1 b a.2.live in (
          a.0,
          a.1,
          record {
            live = a.2.live;
            kind = a.2.kind;
            same = a.2.same;
            wires =
                place_other U p ps v.place (ne_eqb v.place p (λ e. omega (arith, e, le, x)))
                ∙ (a.2.wires ∙ ap (part_of a.0.ty.shape (indices v.part)) (sym (place_other U p ps a.0.place (ne_eqb a.0.place p (λ e. omega (arith, e, le, y))))));
          },
        )

pub of_none : (n : ℕ) (w : WireId) (k : Known) → IsKnown n k → n ≤ w.number → times_in w (operands_of k) ≡ 0
of_none n w (Static z) h le = refl
of_none n w (Shown v) h le = known_none n w (Shown v) h le
of_none n w (Lent start size v) h le = refl
of_none n w Absent h le = refl

-- ---- behind an expression

module _ (out : Outside) (sc : Scope) (low : ℕ) (others : ℕ → ℕ) (W : Places) (under : List Value) (us : List Use) (c : Context) (s : Flattening) (b : Begins out sc low others W under us c s) where
  pub live_before : AllOf (Below c.next) c.vars
  live_before = live_below c.next c.vars (λ p le. let a = b.sole.ahead p le in omega (arith, a))

  pub under_new : (p : ℕ) → c.next ≤ p → owned p under ≡ 0
  under_new p le = let a = b.sole.ahead p le in let q = b.counted p in omega (arith, a, q)

  pub under_before : AllOf (λ (v : Value). v.place < c.next) under
  under_before = values_below c.next under under_new

  -- wires that are not made yet have no owner
  pub none_new : (w : WireId) → wires_so_far s ≤ w.number → owners_of W c.vars under w ≡ 0
  none_new w le = go (cases_lt 0 (owners_of W c.vars under w))
    where
      go : (0 < owners_of W c.vars under w) ⊎ (owners_of W c.vars under w ≤ 0) → owners_of W c.vars under w ≡ 0
      go (inl lt) = let a = (b.stands.free w (omega (arith, lt))).0 in absurd (omega (arith, a, le))
      go (inr z) = omega (arith, z)

  vars_new : (w : WireId) → wires_so_far s ≤ w.number → AllOf (λ v. v.consumed ≡ false → times_in w (W v.place) ≡ 0) c.vars
  vars_new w le = vars_none (wires_so_far s) w W c.vars le (subst (AllOf _) b.stands.env (order_of_env (IsKnown (wires_so_far s)) s.env b.good.known.env)) b.stands.parts

  -- what is used was made before
  pub used_old : (ws : List Use) (w : WireId) → AllOf (IsThere sc.held c.vars) ws → used_wires W c.vars ws w ≡ true → w.number < wires_so_far s
  used_old [] w h e = clash (sym e)
  used_old (u ∷ ws) w h e = go (wires_of_part W c.vars u.part w) refl e (used_old ws w h.1) (cases_lt w.number (wires_so_far s))
    where
      go : (t : Bool) → wires_of_part W c.vars u.part w ≡ t → (t || used_wires W c.vars ws w) ≡ true → (used_wires W c.vars ws w ≡ true → w.number < wires_so_far s) → (w.number < wires_so_far s) ⊎ (wires_so_far s ≤ w.number) → w.number < wires_so_far s
      go false f g i q = i g
      go true f g i (inl lt) = lt
      go true f g i (inr le) =
          let a = among_times w (used_part out sc.held W under c s b.stands u h.0) (sym (wires_are out sc.held W under c s b.stands u h.0 w) ∙ f) in
          let m = part_at_most w h.0.owner.ty.shape (indices u.part) (W h.0.owner.place) in
          let z = found_all (λ v. v.consumed ≡ false → times_in w (W v.place) ≡ 0) c.vars (variable u.part.name) h.0.owner h.0.found (vars_new w le) h.0.live in
          absurd (omega (arith, a, m, z))

  module _ (need : Need) (e : Effect) (vs : List Value) (d : Context) (o : ExprDone out sc need e W under us c s vs d) (left : AllLeft c.vars d.vars) where
    abbrev U : Places
    U = o.after

    abbrev s1 : Flattening
    s1 = flat e s

    pub good_next : Good s1
    good_next = good_flat e s b.good o.fine

    pub owners_next : OnePart c.vars → (w : WireId) → owners_of U d.vars under w ≤ owners_of W c.vars under w
    owners_next one w = owners_fall c.next W U o.agree c.vars d.vars left one under live_before under_before w

    -- nothing but its values knows what it made
    shown_new : (w : WireId) (cs ds : List Var) → AllLeft cs ds → AllOf (Below c.next) cs → AllOf (λ v. v.consumed ≡ false → times_in w (W v.place) ≡ 0) cs → AllOf (λ v. is_shared v ≡ true → names (shown U d.vars v) w ≡ false) ds
    shown_new w [] [] l h z = tt
    shown_new w [] (v ∷ ds) l h z = absurd l
    shown_new w (u ∷ cs) [] l h z = absurd l
    shown_new w (u ∷ cs) (v ∷ ds) l h z = (
      λ q. no_times w (operands_in (shown U d.vars v)) (shown_at_most U d.vars v w (λ e. ap (times_in w) (ap U l.0.place ∙ o.agree u.place (h.0 (l.0.live e))) ∙ z.0 (l.0.live e))),
      shown_new w cs ds l.1 h.1 z.1,
    )

    callers_new : (w : WireId) → wires_so_far s ≤ w.number → (cs : List Caller) → AllOf (CallerOf (IsKnown (wires_so_far s))) cs → AllOf (CallerOf (λ k. names k w ≡ false)) cs
    callers_new w le [] h = tt
    callers_new w le (x ∷ cs) h = (
      (
        all_more (AllOf (λ (p : NameId × Known). IsKnown (wires_so_far s) p.1)) (AllOf (λ (p : NameId × Known). names p.1 w ≡ false)) x.env (λ l q. all_more (λ (p : NameId × Known). IsKnown (wires_so_far s) p.1) (λ (p : NameId × Known). names p.1 w ≡ false) l (λ p k. known_unnamed (wires_so_far s) w p.1 k le) q) h.0.0,
        all_more (IsKnown (wires_so_far s)) (λ k. names k w ≡ false) x.values (λ k q. known_unnamed (wires_so_far s) w k q le) h.0.1,
      ),
      callers_new w le cs h.1,
    )

    pub knows_next : OnePart c.vars → KnowsNone out U under d s1.callers (wires_so_far s)
    knows_next one = record {
      none = λ w le. let a = owners_next one w in let z = none_new w le in omega (arith, a, z);
      shared = λ w le. shown_new w c.vars d.vars left live_before (vars_new w le);
      callers = λ w le. subst (AllOf (CallerOf (λ k. names k w ≡ false))) (sym o.leaves.callers) (callers_new w le s.callers b.good.known.callers);
      unguarded = λ w le. go w le (out.guarded w) refl;
    }
      where
        go : (w : WireId) → wires_so_far s ≤ w.number → (t : Bool) → out.guarded w ≡ t → t ≡ false
        go w le true g = let a = b.stands.below w g in absurd (omega (arith, a, le))
        go w le false g = refl

    pub around_next : (v : Value) (k : Known) → OnePart c.vars → IsKnown (wires_so_far s1) k → EndsDropped (wires_so_far s) s1.built.draft k → Around out U (wires_so_far s) c.next under d s1 v k
    around_next v k one known dropped = record {
      knows = knows_next one;
      grown = o.touches.grown;
      fresh = good_next.fresh;
      unmade = o.unmade;
      there = λ w le. go w le (cases_lt w.number (wires_so_far s1));
      untold = λ q w le l m. dropped w le l m;
      alone = λ le. let a = b.sole.ahead v.place le in let z = left_owners c.vars d.vars left v.place in omega (arith, a, z);
      apart = λ le. under_new v.place le;
      fit = λ le ps. fits_placed U c.next v.place ps d.vars d.vars le (below_left c.next c.vars d.vars left live_before) (placed_left c.next c.vars d.vars left b.placed) o.stands.parts;
    }
      where
        go : (w : WireId) → 1 ≤ times_in w (operands_of k) → (w.number < wires_so_far s1) ⊎ (wires_so_far s1 ≤ w.number) → w.number < wires_so_far s1
        go w le (inl lt) = lt
        go w le (inr ge) = let z = of_none (wires_so_far s1) w k known ge in absurd (omega (arith, z, le))

    -- ---- the next expression

    part_same : (u : Use) (w : WireId) → IsThere sc.held d.vars u → wires_of_part U d.vars u.part w ≡ wires_of_part W c.vars u.part w
    part_same u w h = go (find_var c.vars (variable u.part.name)) refl (subst (FindLeft (find_var c.vars (variable u.part.name))) h.found (find_left c.vars d.vars (variable u.part.name) left))
      where
        go : (r : Option Var) → find_var c.vars (variable u.part.name) ≡ r → FindLeft r (Some h.owner) → wires_of_part U d.vars u.part w ≡ wires_of_part W c.vars u.part w
        go None e f = absurd f
        go (Some v) e f =
            ap (λ r. wires_for U r u.part w) h.found
            ∙ (ap₂ (λ (t : Ty) ps. among (wires_in (part_of t.shape (indices u.part) ps)) w) f.ty (ap U f.place ∙ o.agree v.place (found_all (Below c.next) c.vars (variable u.part.name) v e live_before (f.live h.live)))
            ∙ sym (ap (λ r. wires_for W r u.part w) e))

    pub used_next : (ws : List Use) (w : WireId) → AllOf (IsThere sc.held d.vars) ws → used_wires U d.vars ws w ≡ used_wires W c.vars ws w
    used_next [] w h = refl
    used_next (u ∷ ws) w h = ap₂ (λ x y. x || y) (part_same u w h.0) (used_next ws w h.1)

    pub consumed_next : (ws : List Use) (w : WireId) → AllOf (IsThere sc.held d.vars) ws → consumed_wires U d.vars ws w ≡ consumed_wires W c.vars ws w
    consumed_next [] w h = refl
    consumed_next (u ∷ ws) w h = ap₂ (λ x y. (is_consumed u.need && x) || y) (part_same u w h.0) (consumed_next ws w h.1)

    -- a value of the first expression names nothing that the next one consumes
    pub answer_apart : (ws : List Use) (k : Known) → AllOf (IsThere sc.held c.vars) us → AllOf (Gone d.vars) us → AllOf (IsThere sc.held d.vars) ws → consume_and_hold us ws ≡ false → Within (used_wires W c.vars us) (wires_so_far s) k
        → (w : WireId) → consumed_wires W c.vars ws w ≡ true → names k w ≡ false
    answer_apart ws k hu hg hw ch within w e = operands_apart out sc.held W under c s us ws k b.stands hu (all_there_left sc.held c.vars d.vars ws left hw) (none_twice sc.held d.vars us ws hg hw) ch within w e

    pub begins_next : (more_others : ℕ → ℕ) (more : List Value) (ws : List Use) → Sole low more_others d → c.next ≤ d.next → Counted more more_others → Stands out sc.held U more d s1 → AllOf (IsThere sc.held d.vars) ws → NoneNames (consumed_wires W c.vars ws) s1.values
        → Begins out sc low more_others U more ws d s1
    begins_next more_others more ws sole grown few stands there apart = record {
      good = good_next;
      unmade = o.unmade;
      sole = sole;
      counted = few;
      stands = stands;
      open_air = λ q r. ap (λ (x : _). x.condition) o.leaves.setting ∙ b.open_air q r;
      apart = λ w t. apart w (sym (consumed_next ws w there) ∙ t);
      placed = placed_more c.next d.next d.vars grown (placed_left c.next c.vars d.vars left b.placed);
      lone = lone_stays c.vars d.vars o.kinds_stay b.lone;
    }
