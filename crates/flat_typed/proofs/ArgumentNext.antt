-- From where the values behind the first one of a list begin.
use Rattle.std.proofs.Common.{◌≡◌, ◌⊎◌, inl, inr, ℕ, ◌+◌, ◌≤◌, Bool, true, false, cond, not, ◌&&◌, ◌||◌, List, [], ◌∷◌, ◌++◌, refl, sym, ap, ap₂, ◌∙◌, subst, arith}
use Rattle.std.specs.Prelude.{Option, Some, None}
use Rattle.silq_types.specs.declared.types.Ty.{Ty}
use Rattle.silq_types.specs.declared.values.Part.{Part}
use Rattle.silq_types.specs.declared.values.Value.{Value}
use Rattle.silq_types.specs.declared.values.Var.{Var}
use Rattle.silq_types.specs.declared.need.Need.{Need}
use Rattle.silq_types.specs.declared.need.Need.TheVariants as needs
use Rattle.silq_types.specs.Calls.{is_consumed}
use Rattle.silq_mean.specs.Effect.{Effect}
use Rattle.silq_mean.specs.declared.receiver.Receiver.{Receiver}
use Rattle.silq_mean.specs.declared.receiver.Receiver.TheVariants.{Variable, Argument, CallResult, EntryOutput}
use Rattle.check_scope.specs.declared.uses.Use.{Use}
use Rattle.check_scope.specs.Context.{Scope, Context, indices, variable, find_var}
use Rattle.check_scope.specs.Uses.{consume_and_hold}
use Rattle.check_expr.specs.Owners.{owned, handed, Sole}
use Rattle.flat_core.specs.declared.step.WireId.{WireId}
use Rattle.bit_arith.specs.Calls.{among}
use Rattle.flat_form.specs.State.{Flattening, wires_in, part_of, operands_of}
use Rattle.flat_form.specs.Flat.{flat}
use Rattle.flat_form.specs.Names.{AllOf, names}
use Rattle.flat_typed.specs.Places.{Places, times_in, carriers, owners_of}
use Rattle.flat_typed.specs.Footprint.{wires_for, wires_of_part, used_wires, consumed_wires}
use Rattle.flat_typed.specs.Relation.{Outside, is_argument, is_carried, need_of}
use Rattle.flat_typed.specs.Uses.{IsThere}
use Rattle.flat_typed.specs.Done.{Agree, Begins}
use Rattle.flat_typed.specs.Calls.{carried}
use Rattle.flat_typed.proofs.Ordered.{clash}
use Rattle.flat_typed.proofs.Moving.{found_all}
use Rattle.flat_typed.proofs.Placing.{named_times}
use Rattle.flat_typed.proofs.Uses.{used_append, consumed_append, consumed_is_used}
use Rattle.flat_typed.proofs.Footprints.{operands_apart, consumed_each}
use Rattle.flat_typed.proofs.Tame.{AllLeft, FindLeft, find_left, all_there_left}
use Rattle.flat_typed.proofs.Falling.{Below}
use Rattle.flat_typed.proofs.Spending.{Gone, none_twice}
use Rattle.flat_typed.proofs.Lone.{lone_stays}
use Rattle.flat_typed.proofs.Following.{placed_left, placed_more, live_before}
use Rattle.flat_typed.proofs.UnderWay.{carriers_append, carried_unused}
use Rattle.flat_typed.proofs.TakenOver.{TakenNext}

-- ---- parts by other places

module _ (held : List (List Part)) (W U : Places) (n : ℕ) (cs ds : List Var) (left : AllLeft cs ds) (agree : Agree n W U) (below : AllOf (Below n) cs) where
  part_same : (u : Use) (w : WireId) → IsThere held ds u → wires_of_part U ds u.part w ≡ wires_of_part W cs u.part w
  part_same u w h = go (find_var cs (variable u.part.name)) refl (subst (FindLeft (find_var cs (variable u.part.name))) h.found (find_left cs ds (variable u.part.name) left))
    where
      go : (r : Option Var) → find_var cs (variable u.part.name) ≡ r → FindLeft r (Some h.owner) → wires_of_part U ds u.part w ≡ wires_of_part W cs u.part w
      go None e f = absurd f
      go (Some v) e f =
          ap (λ r. wires_for U r u.part w) h.found
          ∙ (ap₂ (λ (t : Ty) ps. among (wires_in (part_of t.shape (indices u.part) ps)) w) f.ty (ap U f.place ∙ agree v.place (found_all (Below n) cs (variable u.part.name) v e below (f.live h.live)))
          ∙ sym (ap (λ r. wires_for W r u.part w) e))

  pub used_same : (ws : List Use) (w : WireId) → AllOf (IsThere held ds) ws → used_wires U ds ws w ≡ used_wires W cs ws w
  used_same [] w h = refl
  used_same (u ∷ ws) w h = ap₂ (λ x y. x || y) (part_same u w h.0) (used_same ws w h.1)

  pub consumed_same : (ws : List Use) (w : WireId) → AllOf (IsThere held ds) ws → consumed_wires U ds ws w ≡ consumed_wires W cs ws w
  consumed_same [] w h = refl
  consumed_same (u ∷ ws) w h = ap₂ (λ x y. (is_consumed u.need && x) || y) (part_same u w h.0) (consumed_same ws w h.1)

-- ---- lists of uses

or_one : (a b : Bool) → a ≡ true → (a || b) ≡ true
or_one true b e = refl
or_one false b e = clash (sym e)

or_two : (a b : Bool) → b ≡ true → (a || b) ≡ true
or_two true b e = refl
or_two false b e = e

module _ (W : Places) (vars : List Var) (us vs : List Use) (w : WireId) where
  pub consumed_first : consumed_wires W vars us w ≡ true → consumed_wires W vars (us ++ vs) w ≡ true
  consumed_first e = consumed_append W vars us vs w ∙ or_one (consumed_wires W vars us w) (consumed_wires W vars vs w) e

  pub consumed_second : consumed_wires W vars vs w ≡ true → consumed_wires W vars (us ++ vs) w ≡ true
  consumed_second e = consumed_append W vars us vs w ∙ or_two (consumed_wires W vars us w) (consumed_wires W vars vs w) e

  pub used_first : used_wires W vars us w ≡ true → used_wires W vars (us ++ vs) w ≡ true
  used_first e = used_append W vars us vs w ∙ or_one (used_wires W vars us w) (used_wires W vars vs w) e

  pub used_second : used_wires W vars vs w ≡ true → used_wires W vars (us ++ vs) w ≡ true
  used_second e = used_append W vars us vs w ∙ or_two (used_wires W vars us w) (used_wires W vars vs w) e

-- ---- what is carried

pub carried_consumes : (r : Receiver) (v : Value) → is_carried r v ≡ true → is_consumed (need_of r) ≡ true
carried_consumes Variable v e = refl
carried_consumes (Argument need t) v e = go (is_consumed need) e
  where
    go : (a : Bool) → (a && not t.classical) ≡ true → a ≡ true
    go true q = refl
    go false q = q
carried_consumes (CallResult t) v e = refl
carried_consumes (EntryOutput t) v e = refl

owned_append : (p : ℕ) (xs ys : List Value) → owned p (xs ++ ys) ≡ owned p xs + owned p ys
owned_append p [] ys = omega arith
owned_append p (x ∷ xs) ys = let a = owned_append p xs ys in omega (arith, a)

pub handed_all : (need : Need) (p : ℕ) (vs : List Value) → is_consumed need ≡ true → handed need p vs ≡ owned p vs
handed_all needs.Held p vs e = clash (sym e)
handed_all needs.Consumed p vs e = refl

carried_few : (p : ℕ) (r : Receiver) (v : Value) → owned p (carried (r ∷ []) (v ∷ [])) ≤ handed (need_of r) p (v ∷ [])
carried_few p r v = go (is_carried r v) refl
  where
    go : (t : Bool) → is_carried r v ≡ t → owned p (cond t (v ∷ []) []) ≤ handed (need_of r) p (v ∷ [])
    go true e = let a = handed_all (need_of r) p (v ∷ []) (carried_consumes r v e) in omega (arith, a)
    go false e = omega arith

-- ---- behind the first

module _ (out : Outside) (sc : Scope) (low : ℕ) (others : ℕ → ℕ) (W : Places) (under : List Value) (us vs : List Use) (c : Context) (s : Flattening) (b : Begins out sc low others W under (us ++ vs) c s)
    (r : Receiver) (E : Effect) (v : Value) (d : Context) (p : TakenNext out sc r E W under us c s v d)
    (there : AllOf (IsThere sc.held c.vars) us) (later : AllOf (IsThere sc.held d.vars) vs) (gone : AllOf (Gone d.vars) us) (left : AllLeft c.vars d.vars)
    (apart : (is_argument r ≡ false) ⊎ (consume_and_hold us vs ≡ false)) where
  abbrev pub under_next : List Value
  under_next = carried (r ∷ []) (v ∷ []) ++ under

  abbrev s2 : Flattening
  s2 = flat E s

  abbrev pub others_next : ℕ → ℕ
  others_next q = others q + handed (need_of r) q (v ∷ [])

  below : AllOf (Below c.next) c.vars
  below = live_before out sc low others W under (us ++ vs) c s b

  pub next_used : (w : WireId) → used_wires p.after d.vars vs w ≡ used_wires W c.vars vs w
  next_used w = used_same sc.held W p.after c.next c.vars d.vars left p.agree below vs w later

  pub next_consumed : (w : WireId) → consumed_wires p.after d.vars vs w ≡ consumed_wires W c.vars vs w
  next_consumed w = consumed_same sc.held W p.after c.next c.vars d.vars left p.agree below vs w later

  -- what it carries no later value uses
  pub carried_not_used : (w : WireId) → 1 ≤ carriers p.after w (carried (r ∷ []) (v ∷ [])) → used_wires p.after d.vars vs w ≡ false
  carried_not_used w le = carried_unused out sc.held p.after under_next d s2 p.stands w (let a = carriers_append p.after w (carried (r ∷ []) (v ∷ [])) under in omega (arith, a, le)) vs later

  carried_times : (w : WireId) → is_carried r v ≡ true → names p.answer w ≡ true → 1 ≤ carriers p.after w (carried (r ∷ []) (v ∷ []))
  carried_times w e n =
      let a : 1 ≤ times_in w (operands_of p.answer) = named_times w (operands_of p.answer) (sym (ap (λ k. names k w) p.taken.shows) ∙ n) in
      let q : times_in w (operands_of p.answer) ≡ times_in w (p.after v.place) = ap (times_in w) (p.taken.own e).0 in
      let z : carriers p.after w (carried (r ∷ []) (v ∷ [])) ≡ times_in w (p.after v.place) + 0 = ap (λ t. carriers p.after w (cond t (v ∷ []) [])) e in
      omega (arith, a, q, z)

  shared_apart : (q : Receiver) → r ≡ q → is_argument q ≡ false → is_carried q v ≡ false → (w : WireId) → consumed_wires p.after d.vars vs w ≡ true → names p.answer w ≡ true → true ≡ false
  shared_apart Variable e i k w t n =
      let a = p.shares (ap (λ x. is_consumed (need_of x)) e) (not_false v.ty.classical k) w n in
      let o = (consumed_each out sc.held p.after under_next d s2 p.stands vs later w t).0 in
      let z : owners_of p.after d.vars under_next w ≡ owners_of p.after d.vars under w = ap (λ x. owners_of p.after d.vars (cond (is_carried x v) (v ∷ []) [] ++ under) w) e ∙ ap (λ x. owners_of p.after d.vars (cond x (v ∷ []) [] ++ under) w) k in
      absurd (omega (arith, a, o, z))
    where
      not_false : (a : Bool) → not a ≡ false → a ≡ true
      not_false true e = refl
      not_false false e = clash e
  shared_apart (Argument need t) e i k w u n = i
  shared_apart (CallResult t) e i k w u n = k
  shared_apart (EntryOutput t) e i k w u n = k

  -- its value names nothing that a later one consumes
  pub next_apart : (w : WireId) → consumed_wires p.after d.vars vs w ≡ true → names p.answer w ≡ false
  next_apart w t = go (names p.answer w) refl (is_carried r v) refl apart
    where
      go : (x : Bool) → names p.answer w ≡ x → (y : Bool) → is_carried r v ≡ y → (is_argument r ≡ false) ⊎ (consume_and_hold us vs ≡ false) → x ≡ false
      go false n y k a = refl
      go true n true k a = clash (sym (consumed_is_used p.after d.vars vs w t) ∙ carried_not_used w (carried_times w k n))
      go true n false k (inl a) = shared_apart r refl a k w t n
      go true n false k (inr a) =
          sym n ∙ operands_apart out sc.held W under c s us vs p.answer b.stands there (all_there_left sc.held c.vars d.vars vs left later) (none_twice sc.held d.vars us vs gone later) a p.taken.within w (sym (next_consumed w) ∙ t)

  pub next_begins : Sole low others_next d → c.next ≤ d.next → Begins out sc low others_next p.after under_next vs d s2
  next_begins sole grown = record {
    good = p.good;
    unmade = p.unmade;
    sole = sole;
    counted = λ q. let a = owned_append q (carried (r ∷ []) (v ∷ [])) under in let e = carried_few q r v in let f = b.counted q in omega (arith, a, e, f);
    stands = p.stands;
    open_air = λ q z. ap (λ x. x.condition) p.leaves.setting ∙ b.open_air q z;
    apart = λ w t. subst (AllOf (λ k. names k w ≡ false)) (sym p.values) (next_apart w t, b.apart w (consumed_second W c.vars us vs w (sym (next_consumed w) ∙ t)));
    placed = placed_more c.next d.next d.vars grown (placed_left c.next c.vars d.vars left b.placed);
    lone = lone_stays c.vars d.vars p.kinds_stay b.lone;
  }
