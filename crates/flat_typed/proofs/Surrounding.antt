-- Behind an expression: what else is known names no wire that came since it began, and nothing owns a new place.
use Rattle.std.proofs.Common.{◌≡◌, ◌⊎◌, inl, inr, ℕ, ◌+◌, ◌≤◌, ◌<◌, Bool, true, false, cond, not, ◌||◌, List, [], ◌∷◌, ◌++◌, length, drop, refl, sym, ap, ◌∙◌, subst, arith}
use Rattle.std.specs.Prelude.{Option, Some, None, reverse}
use Rattle.std.specs.List.{list_any}
use Rattle.std.proofs.lemmas.Bool.{cases_lt, ne_eqb, eq-eqb}
use Rattle.silq_tree.specs.declared.node.NameId.{NameId}
use Rattle.silq_types.specs.declared.values.Value.{Value}
use Rattle.silq_types.specs.declared.values.Var.{Var}
use Rattle.silq_types.specs.declared.need.Need.{Need}
use Rattle.silq_types.specs.declared.need.Need.TheVariants as needs
use Rattle.silq_types.specs.declared.values.Part.{Part}
use Rattle.silq_types.specs.Types.{shape_bits}
use Rattle.silq_types.specs.Calls.{is_consumed}
use Rattle.check_scope.specs.declared.uses.Use.{Use}
use Rattle.check_scope.specs.Context.{Context, Scope, indices, variable, find_var}
use Rattle.check_expr.specs.Owners.{at_place, owners, owned, handed, Sole}
use Rattle.silq_mean.specs.Env.{Env}
use Rattle.silq_mean.specs.Effect.{Effect}
use Rattle.silq_mean.specs.Written.{is_empty}
use Rattle.flat_core.specs.declared.step.WireId.{WireId}
use Rattle.bit_arith.specs.declared.operand.Operand.{Operand}
use Rattle.bit_arith.specs.Built.{Setting, under_condition}
use Rattle.bit_arith.specs.Calls.{AllSafe, no_target, among}
use Rattle.flat_form.specs.declared.known.Known.{Known}
use Rattle.flat_form.specs.declared.known.Known.TheVariants.{Static, Shown, Lent, Absent}
use Rattle.flat_form.specs.State.{Caller, Flattening, first, last, wires_so_far, wires_in, operands_of, part_start, part_shape, part_of}
use Rattle.flat_form.specs.Flat.{flat}
use Rattle.flat_form.specs.Names.{AllOf, AllEnv, CallerOf, operands_in, named_by, names}
use Rattle.flat_form.specs.Good.{Good, IsKnown}
use Rattle.flat_form.proofs.Goods.{good_flat}
use Rattle.flat_typed.specs.Places.{Places, with_place, is_part, is_shared, has_wires, part_out, less_part, bits_for, shown, entries, in_order, times_in, holds, holders, carriers, owners_of}
use Rattle.flat_typed.specs.Footprint.{consumed_wires, NoneNames}
use Rattle.flat_typed.specs.Relation.{FitsPart, Outside, Stands, IfOwn, is_own}
use Rattle.flat_typed.specs.Done.{Agree, Begins, ExprDone, EndsDropped, Counted}
use Rattle.flat_typed.proofs.Ordered.{clash}
use Rattle.flat_typed.proofs.Parts.{found_there, whole_part}
use Rattle.flat_typed.proofs.Changes.{whole_is}
use Rattle.flat_typed.proofs.Owning.{no_times, names_none, env_of_order, among_times}
use Rattle.flat_typed.proofs.Moving.{all_more, found_all}
use Rattle.flat_typed.proofs.Spans.{part_at_most, span_and_outside}
use Rattle.flat_typed.proofs.Borrowing.{times_there}
use Rattle.flat_typed.proofs.Keeping.{KnowsBefore}
use Rattle.flat_typed.proofs.Placing.{KnowsNone, place_other}
use Rattle.flat_typed.proofs.Handing.{carriers_agree}
use Rattle.flat_typed.proofs.Claims.{all_below}
use Rattle.flat_typed.proofs.Taking.{Around}
use Rattle.flat_typed.proofs.Tame.{AllLeft}

-- ---- wires that are there

-- all wires of some operands are among the first n
abbrev pub Before : ℕ → List Operand → Type 0
Before n ps = (w : WireId) → 1 ≤ times_in w ps → w.number < n

-- what a state knows, in order
pub order_of_env : (Q : Known → Type 0) (env : Env Known) → AllEnv Q env → AllOf (λ (p : NameId × Known). Q p.1) (in_order env)
order_of_env Q [] h = tt
order_of_env Q (b ∷ bs) h = join (in_order bs) (order_of_env Q bs h.1)
  where
    join : (xs : List (NameId × Known)) → AllOf (λ (p : NameId × Known). Q p.1) xs → AllOf (λ (p : NameId × Known). Q p.1) (xs ++ b)
    join [] k = h.0
    join (x ∷ xs) k = (k.0, join xs k.1)

-- of what is known no wire from the n-th on is named
pub known_unnamed : (n : ℕ) (k : Known) → IsKnown n k → (w : WireId) → n ≤ w.number → names k w ≡ false
known_unnamed n (Static z) h w le = refl
known_unnamed n Absent h w le = refl
known_unnamed n (Shown v) h w le = no_times w v.operands (none (cases_lt 0 (times_in w v.operands)))
  where
    none : (0 < times_in w v.operands) ⊎ (times_in w v.operands ≤ 0) → times_in w v.operands ≡ 0
    none (inl lt) = let a = times_there n w v.operands h.there (omega (arith, lt)) in absurd (omega (arith, a, le))
    none (inr z) = omega (arith, z)
known_unnamed n (Lent start size v) h w le = no_times w (operands_in (Lent start size v)) (none (cases_lt 0 (times_in w v.operands)))
  where
    none : (0 < times_in w v.operands) ⊎ (times_in w v.operands ≤ 0) → times_in w (operands_in (Lent start size v)) ≡ 0
    none (inl lt) = let a = times_there n w v.operands h.there (omega (arith, lt)) in absurd (omega (arith, a, le))
    none (inr z) = let a = span_and_outside w start size v.operands in omega (arith, z, a)

pub all_unnamed : (n : ℕ) (ks : List Known) → AllOf (IsKnown n) ks → (w : WireId) → n ≤ w.number → AllOf (λ k. names k w ≡ false) ks
all_unnamed n [] h w le = tt
all_unnamed n (k ∷ ks) h w le = (known_unnamed n k h.0 w le, all_unnamed n ks h.1 w le)

block_unnamed : (n : ℕ) (b : List (NameId × Known)) → AllOf (λ (p : NameId × Known). IsKnown n p.1) b → (w : WireId) → n ≤ w.number → AllOf (λ (p : NameId × Known). names p.1 w ≡ false) b
block_unnamed n [] h w le = tt
block_unnamed n (p ∷ ps) h w le = (known_unnamed n p.1 h.0 w le, block_unnamed n ps h.1 w le)

pub env_unnamed : (n : ℕ) (env : Env Known) → AllEnv (IsKnown n) env → (w : WireId) → n ≤ w.number → AllEnv (λ k. names k w ≡ false) env
env_unnamed n [] h w le = tt
env_unnamed n (b ∷ bs) h w le = (block_unnamed n b h.0 w le, env_unnamed n bs h.1 w le)

pub callers_unnamed : (n : ℕ) (cs : List Caller) → AllOf (CallerOf (IsKnown n)) cs → (w : WireId) → n ≤ w.number → AllOf (CallerOf (λ k. names k w ≡ false)) cs
callers_unnamed n [] h w le = tt
callers_unnamed n (c ∷ cs) h w le = ((env_unnamed n c.env h.0.0 w le, all_unnamed n c.values h.0.1 w le), callers_unnamed n cs h.1 w le)

-- ---- what the places of variables show

abbrev ShowsBefore : Places → ℕ → Var → Type 0
ShowsBefore W n v = v.consumed ≡ false → Before n (W v.place)

wholes_before : (W : Places) (n : ℕ) (all vs : List Var) → AllOf (λ (p : NameId × Known). IsKnown n p.1) (entries W all vs) → AllOf (λ v. is_part v ≡ false → ShowsBefore W n v) vs
wholes_before W n all [] h = tt
wholes_before W n all (v ∷ vs) h = go (is_part v) refl h (λ k. wholes_before W n all vs k)
  where
    one : (r : Option Var) → IsKnown n (less_part r (bits_for W v)) → Before n (W v.place)
    one None k w le = times_there n w (W v.place) k.there le
    one (Some p) k w le = times_there n w (W v.place) k.there le

    go : (t : Bool) → is_part v ≡ t → AllOf (λ (p : NameId × Known). IsKnown n p.1) (cond t (entries W all vs) ((v.part.name, shown W all v) ∷ entries W all vs))
        → (AllOf (λ (p : NameId × Known). IsKnown n p.1) (entries W all vs) → AllOf (λ v. is_part v ≡ false → ShowsBefore W n v) vs)
        → (is_part v ≡ false → ShowsBefore W n v) × AllOf (λ v. is_part v ≡ false → ShowsBefore W n v) vs
    go true e k i = (λ q. clash (sym e ∙ q), i k)
    go false e k i = (λ q live. one (part_out all v.part.name) (subst (λ t. IsKnown n (cond t Absent (less_part (part_out all v.part.name) (bits_for W v)))) live k.0), i k.1)

-- each variable that is not consumed shows wires that are there, and so does each part
pub shows_before : (out : Outside) (held : List (List Part)) (W : Places) (under : List Value) (c : Context) (s : Flattening) → Good s → Stands out held W under c s → AllOf (λ v. v.consumed ≡ false → Before (wires_so_far s) (W v.place)) c.vars
shows_before out held W under c s good r = each c.vars wholes r.parts
  where
    n : ℕ
    n = wires_so_far s

    wholes : AllOf (λ v. is_part v ≡ false → ShowsBefore W n v) c.vars
    wholes = wholes_before W n c.vars c.vars (subst (AllOf (λ (p : NameId × Known). IsKnown n p.1)) r.env (order_of_env (IsKnown n) s.env good.known.env))

    of_part : (v : Var) → FitsPart W c.vars v → is_part v ≡ true → Before n (W v.place)
    of_part v f e w le =
        let g = f e in
        let x = found_all (λ v. is_part v ≡ false → ShowsBefore W n v) c.vars (variable v.part.name) g.0 g.1 wholes (whole_is g.0 v.part.name (found_there c.vars v.part.name g.0 g.1)) g.2.live in
        let a = part_at_most w g.0.ty.shape (indices v.part) (W g.0.place) in
        let b : 1 ≤ times_in w (W g.0.place) = omega (arith, a, subst (λ ps. 1 ≤ times_in w ps) g.2.wires le) in
        x w b

    one : (v : Var) (t : Bool) → is_part v ≡ t → (is_part v ≡ false → ShowsBefore W n v) → FitsPart W c.vars v → ShowsBefore W n v
    one v true e k f live = of_part v f e
    one v false e k f live = k e live

    each : (vs : List Var) → AllOf (λ v. is_part v ≡ false → ShowsBefore W n v) vs → AllOf (FitsPart W c.vars) vs → AllOf (ShowsBefore W n) vs
    each [] h k = tt
    each (v ∷ vs) h k = (one v (is_part v) refl h.0 k.0, each vs h.1 k.1)

-- the same behind an expression
left_before : (W U : Places) (n low : ℕ) (vs ws : List Var) → AllLeft vs ws → Agree low W U → AllOf (λ v. v.consumed ≡ false → v.place < low) vs → AllOf (ShowsBefore W n) vs → AllOf (λ v. v.consumed ≡ false → (v.place < low) × Before n (U v.place)) ws
left_before W U n low [] [] l a p h = tt
left_before W U n low [] (w ∷ ws) l a p h = absurd l
left_before W U n low (v ∷ vs) [] l a p h = absurd l
left_before W U n low (v ∷ vs) (w ∷ ws) l a p h = (one, left_before W U n low vs ws l.1 a p.1 h.1)
  where
    one : w.consumed ≡ false → (w.place < low) × Before n (U w.place)
    one live = (
      subst (λ q. q < low) (sym l.0.place) (p.0 (l.0.live live)),
      subst (Before n) (sym (a v.place (p.0 (l.0.live live))) ∙ ap U (sym l.0.place)) (h.0 (l.0.live live)),
    )

parts_left : (low : ℕ) (vs ws : List Var) → AllLeft vs ws → AllOf (λ v. is_part v ≡ true → v.place < low) vs → AllOf (λ v. is_part v ≡ true → v.place < low) ws
parts_left low [] [] l p = tt
parts_left low [] (w ∷ ws) l p = absurd l
parts_left low (v ∷ vs) [] l p = absurd l
parts_left low (v ∷ vs) (w ∷ ws) l p = (λ e. subst (λ q. q < low) (sym l.0.place) (p.0 (ap (λ (q : Part). not (is_empty (indices q))) (sym l.0.part) ∙ e)), parts_left low vs ws l.1 p.1)

-- ---- wires that came since

shown_few : (U : Places) (all : List Var) (w : WireId) (v : Var) → times_in w (operands_in (shown U all v)) ≤ times_in w (U v.place)
shown_few U all w v = go v.consumed (part_out all v.part.name)
  where
    go : (t : Bool) (r : Option Var) → times_in w (operands_in (cond t Absent (less_part r (bits_for U v)))) ≤ times_in w (U v.place)
    go true r = omega arith
    go false None = omega arith
    go false (Some p) = let a = span_and_outside w (part_start v.ty.shape (indices p.part)) (shape_bits (part_shape v.ty.shape (indices p.part))) (U v.place) in omega (arith, a)

module _ (U : Places) (n : ℕ) (all : List Var) (w : WireId) (le : n ≤ w.number) where
  none_shown : (v : Var) → (v.consumed ≡ false → Before n (U v.place)) → times_in w (operands_in (shown U all v)) ≡ 0
  none_shown v h = go v.consumed refl (cases_lt 0 (times_in w (U v.place)))
    where
      go : (t : Bool) → v.consumed ≡ t → (0 < times_in w (U v.place)) ⊎ (times_in w (U v.place) ≤ 0) → times_in w (operands_in (shown U all v)) ≡ 0
      go true e x = ap (λ t. times_in w (operands_in (cond t Absent (less_part (part_out all v.part.name) (bits_for U v))))) e
      go false e (inl lt) = let a = h e w (omega (arith, lt)) in absurd (omega (arith, a, le))
      go false e (inr z) = let a = shown_few U all w v in omega (arith, a, z)

  none_held : (vs : List Var) → AllOf (λ v. v.consumed ≡ false → Before n (U v.place)) vs → holders U all w vs ≡ 0
  none_held [] h = refl
  none_held (v ∷ vs) h = let a = one (has_wires v) in let b = none_held vs h.1 in omega (arith, a, b)
    where
      one : (t : Bool) → cond t (times_in w (operands_in (shown U all v))) 0 ≡ 0
      one true = none_shown v h.0
      one false = refl

  pub none_shares : (vs : List Var) → AllOf (λ v. v.consumed ≡ false → Before n (U v.place)) vs → AllOf (λ v. is_shared v ≡ true → names (shown U all v) w ≡ false) vs
  none_shares [] h = tt
  none_shares (v ∷ vs) h = (λ e. no_times w (operands_in (shown U all v)) (none_shown v h.0), none_shares vs h.1)

-- ---- behind an expression

-- places of values under way are none that is to come
values_below : (low : ℕ) (vs : List Value) → ((p : ℕ) → low ≤ p → owned p vs ≡ 0) → AllOf (λ (v : Value). v.place < low) vs
values_below low [] h = tt
values_below low (v ∷ vs) h = (below (cases_lt v.place low), values_below low vs (λ p le. let a = h p le in omega (arith, a)))
  where
    below : (v.place < low) ⊎ (low ≤ v.place) → v.place < low
    below (inl lt) = lt
    below (inr le) =
        let a = h v.place le in
        let c : at_place v.place v.place ≡ 1 = ap (λ t. cond t 1 0) (eq-eqb v.place v.place refl) in
        absurd (omega (arith, a, c))

all_agree : (W U : Places) (low : ℕ) (vs : List Value) → Agree low W U → AllOf (λ (v : Value). v.place < low) vs → AllOf (λ v. U v.place ≡ W v.place) vs
all_agree W U low [] a h = tt
all_agree W U low (v ∷ vs) a h = (a v.place h.0, all_agree W U low vs a h.1)

module _ (out : Outside) (sc : Scope) (low : ℕ) (others : ℕ → ℕ) (W : Places) (under : List Value) (us : List Use) (c : Context) (s : Flattening) (b : Begins out sc low others W under us c s) (need : Need) (e : Effect) (vs : List Value) (d : Context)
    (o : ExprDone out sc need e W under us c s vs d) (left : AllLeft c.vars d.vars) where
  abbrev n : ℕ
  n = wires_so_far s

  abbrev U : Places
  U = o.after

  pub good_behind : Good (flat e s)
  good_behind = good_flat e s b.good o.fine

  under_below : AllOf (λ (v : Value). v.place < c.next) under
  under_below = values_below c.next under (λ p le. let a = b.sole.ahead p le in let q = b.counted p in omega (arith, a, q))

  vars_before : AllOf (λ v. v.consumed ≡ false → (v.place < c.next) × Before n (U v.place)) d.vars
  vars_before = left_before W U n c.next c.vars d.vars left o.agree (all_below c.next c.vars (λ p le. let a = b.sole.ahead p le in omega (arith, a))) (shows_before out sc.held W under c s b.good b.stands)

  only_before : AllOf (λ v. v.consumed ≡ false → Before n (U v.place)) d.vars
  only_before = all_more (λ v. v.consumed ≡ false → (v.place < c.next) × Before n (U v.place)) (λ v. v.consumed ≡ false → Before n (U v.place)) d.vars (λ v h l. (h l).1) vars_before

  -- the variables and the values below know no wire that came since
  pub knows_none : KnowsNone out U under d (flat e s).callers n
  knows_none = record {
    none = λ w le. let a = none_held U n d.vars w le d.vars only_before in let q = carriers_agree U W w under (all_agree W U c.next under o.agree under_below) in let z = carried w le in omega (arith, a, q, z);
    shared = λ w le. none_shares U n d.vars w le d.vars only_before;
    callers = λ w le. subst (AllOf (CallerOf (λ k. names k w ≡ false))) (sym o.leaves.callers) (callers_unnamed n s.callers b.good.known.callers w le);
    unguarded = λ w le. off w le (out.guarded w) refl;
  }
    where
      carried : (w : WireId) → n ≤ w.number → carriers W w under ≡ 0
      carried w le = go (cases_lt 0 (carriers W w under))
        where
          go : (0 < carriers W w under) ⊎ (carriers W w under ≤ 0) → carriers W w under ≡ 0
          go (inl lt) = let a = (b.stands.free w (omega (arith, lt))).0 in absurd (omega (arith, a, le))
          go (inr z) = omega (arith, z)

      off : (w : WireId) → n ≤ w.number → (t : Bool) → out.guarded w ≡ t → t ≡ false
      off w le false q = refl
      off w le true q = let a = b.stands.below w q in absurd (omega (arith, a, le))

  pub knows_before : (k : Known) → (flat e s).values ≡ k ∷ s.values → KnowsBefore n (flat e s)
  knows_before k values = record {
    env = λ w le. env_of_order (λ k. names k w ≡ false) (flat e s).env (subst (AllOf (λ (p : NameId × Known). names p.1 w ≡ false)) (sym o.stands.env) (names_none U d.vars d.vars w (none_held U n d.vars w le d.vars only_before) (none_shares U n d.vars w le d.vars only_before)));
    values = λ w le. subst (AllOf (λ k. names k w ≡ false)) (sym (ap (λ l. drop 1 l) values)) (all_unnamed n s.values b.good.known.values w le);
    callers = λ w le. knows_none.callers w le;
    condition = subst (λ (t : Setting). AllSafe n no_target (under_condition t.condition [])) (sym o.leaves.setting) b.good.condition;
  }

  -- no value below names a wire that the expression consumed or made
  pub below_spared : (T : WireId → Bool) → ((w : WireId) → T w ≡ true → (consumed_wires W c.vars us w ≡ true) ⊎ (n ≤ w.number)) → NoneNames T s.values
  below_spared T h w t = go (h w t)
    where
      go : (consumed_wires W c.vars us w ≡ true) ⊎ (n ≤ w.number) → AllOf (λ k. names k w ≡ false) s.values
      go (inl q) = b.apart w q
      go (inr le) = all_unnamed n s.values b.good.known.values w le

  -- a part and its variable have places from before
  pub parts_fit : (p : ℕ) (ps : List Operand) → c.next ≤ p → AllOf (FitsPart (with_place U p ps) d.vars) d.vars
  parts_fit p ps le = each d.vars o.stands.parts (parts_left c.next c.vars d.vars left b.placed)
    where
      other : (q : ℕ) → q < c.next → with_place U p ps q ≡ U q
      other q lt = place_other U p ps q (ne_eqb q p (λ z. omega (arith, z, le, lt)))

      one : (v : Var) → FitsPart U d.vars v → (is_part v ≡ true → v.place < c.next) → FitsPart (with_place U p ps) d.vars v
      one v f q t =
          let g = f t in
          let l = found_all (λ v. v.consumed ≡ false → (v.place < c.next) × Before n (U v.place)) d.vars (variable v.part.name) g.0 g.1 vars_before g.2.live in
          (g.0, g.1, record { live = g.2.live; kind = g.2.kind; same = g.2.same; wires = other v.place (q t) ∙ (g.2.wires ∙ ap (λ qs. part_of g.0.ty.shape (indices v.part) qs) (sym (other g.0.place l.0))) })

      each : (ws : List Var) → AllOf (FitsPart U d.vars) ws → AllOf (λ v. is_part v ≡ true → v.place < c.next) ws → AllOf (FitsPart (with_place U p ps) d.vars) ws
      each [] f q = tt
      each (v ∷ ws) f q = (one v f.0 q.0, each ws f.1 q.1)

  -- the last value, whose place has no other owner, may be taken over
  pub surrounded : (v : Value) (k : Known) → (flat e s).values ≡ k ∷ s.values → owners v.place d.vars ≡ 0 → owned v.place under ≡ 0 → EndsDropped n (flat e s).built.draft k → Around out U n c.next under d (flat e s) v k
  surrounded v k values alone apart untold = record {
    knows = knows_none;
    grown = o.touches.grown;
    fresh = good_behind.fresh;
    unmade = o.unmade;
    there = λ w le. times k known w le;
    untold = λ q. untold;
    alone = λ le. alone;
    apart = λ le. apart;
    fit = λ le ps. parts_fit v.place ps le;
  }
    where
      known : IsKnown (wires_so_far (flat e s)) k
      known = (subst (AllOf (IsKnown (wires_so_far (flat e s)))) values good_behind.known.values).0

      times : (k : Known) → IsKnown (wires_so_far (flat e s)) k → (w : WireId) → 1 ≤ times_in w (operands_of k) → w.number < wires_so_far (flat e s)
      times (Static z) h w le = absurd (omega (arith, le))
      times Absent h w le = absurd (omega (arith, le))
      times (Lent start size u) h w le = absurd (omega (arith, le))
      times (Shown u) h w le = times_there (wires_so_far (flat e s)) w u.operands h.there le
