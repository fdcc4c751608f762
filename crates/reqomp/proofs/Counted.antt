-- As many steps are done again as the wires that a vertex rests on have.
use Rattle.std.proofs.Common.{◌≡◌, ℕ, ◌+◌, ◌<◌, ◌≤◌, true, List, [], ◌∷◌, ◌++◌, length, slice_get, Some, Contains, refl, sym, ◌∙◌, subst, inl, inr, arith, length-append, le_antisymm}
use Rattle.std.proofs.lemmas.Bool.{cases_lt}
use Rattle.std.proofs.lemmas.List.Elements.{Contains-append_left, Contains-append_right, Contains-append_cases}
use Rattle.flat_core.specs.declared.step.WireId.{WireId}
use Rattle.flat_core.specs.declared.step.StepId.{StepId}
use Rattle.flat_core.specs.Form.{FlatForm}
use Rattle.flat_core.specs.Label.{changes, step_at, top, label_before}
use Rattle.graph_core.specs.declared.vertex.Vertex.{Vertex}
use Rattle.graph_core.specs.Circuit.{steps_on}
use Rattle.graph_core.proofs.Places.{contains_at, place_of}
use Rattle.graph_core.proofs.Chains.{length-steps_on, from_on, on_at}
use Rattle.topo_order.proofs.Orders.{contains_nil, contains_cases, contains_here, contains_later}
use Rattle.reqomp.specs.Level.{IsRedone}
use Rattle.reqomp.specs.Redone.{AreRestedOn, steps_over, RedoneIsCounted}
use Rattle.reqomp.proofs.Apart.{AreApart, within_length, apart_by_place, apart_append}
use Rattle.reqomp.proofs.LevelSlots.{one_target}

module _ (f : FlatForm) where
  -- the steps of some wires, one wire after another
  abbrev steps_of : List WireId → List StepId
  steps_of [] = []
  steps_of (w ∷ rest) = steps_on f w ++ steps_of rest

  length-steps_of : (wires : List WireId) → length (steps_of wires) ≡ steps_over f wires
  length-steps_of [] = refl
  length-steps_of (w ∷ rest) =
      let a : length (steps_on f w ++ steps_of rest) ≡ length (steps_on f w) + length (steps_of rest) = length-append (steps_on f w) (steps_of rest) in
      let b : length (steps_on f w) ≡ top f w = length-steps_on f w in
      let c : length (steps_of rest) ≡ steps_over f rest = length-steps_of rest in
      omega arith

  step_on : (w : WireId) (s : StepId) → Contains (steps_on f w) s → (s.number < length f.steps) × (changes w (step_at f s) ≡ true)
  step_on w s c = let p = place_of (steps_on f w) s c in let o = from_on f w p.0 s p.1 in (o.within, o.changing)

  step_of : (wires : List WireId) (s : StepId) → Contains (steps_of wires) s → (w : WireId) × Contains wires w × (s.number < length f.steps) × (changes w (step_at f s) ≡ true)
  step_of [] s c = absurd (contains_nil s c)
  step_of (w ∷ rest) s c = elim (Contains-append_cases (steps_on f w) (steps_of rest) s c) [
    | inl a ↦ let o = step_on w s a in (w, contains_here w w rest refl, o.0, o.1)
    | inr b ↦ let o = step_of rest s b in (o.0, contains_later w o.0 rest o.1, o.2, o.3)
  ]

  in_steps_of : (wires : List WireId) (w : WireId) (s : StepId) → Contains wires w → s.number < length f.steps → changes w (step_at f s) ≡ true → Contains (steps_of wires) s
  in_steps_of [] w s c l ch = absurd (contains_nil w c)
  in_steps_of (x ∷ rest) w s c l ch = elim (contains_cases x w rest c) [
    | inl e ↦ Contains-append_left (steps_on f x) (steps_of rest) s (subst (λ (y : WireId). Contains (steps_on f y) s) (sym e) (contains_at (steps_on f w) (label_before f s w) s (on_at f s w l ch)))
    | inr i ↦ Contains-append_right (steps_on f x) (steps_of rest) s (in_steps_of rest w s i l ch)
  ]

  apart_on : (w : WireId) → AreApart (steps_on f w)
  apart_on w = apart_by_place (steps_on f w) (λ i j s p q. sym (from_on f w i s p).label ∙ (from_on f w j s q).label)

  apart_of : (wires : List WireId) → AreApart wires → AreApart (steps_of wires)
  apart_of [] apart = tt
  apart_of (w ∷ rest) apart = apart_append (steps_on f w) (steps_of rest) (apart_on w) (apart_of rest apart.1) other
    where
      other : (s : StepId) → Contains (steps_on f w) s → ¬ Contains (steps_of rest) s
      other s c d =
          let a = step_on w s c in
          let b = step_of rest s d in
          apart.0 (subst (Contains rest) (sym (one_target (step_at f s) w b.0 a.1 b.3)) b.1)

  module _ (marked : List WireId) (v : Vertex) (steps : List StepId) (r : IsRedone f marked v steps) where
    one_place : (i j : ℕ) (s : StepId) → slice_get steps i ≡ Some s → slice_get steps j ≡ Some s → i ≡ j
    one_place i j s p q = elim (cases_lt i j) [
      | inl l ↦ let b : s.number < s.number = r.ascending i j s s l p q in absurd (omega arith)
      | inr g ↦ elim (cases_lt j i) [ inl l ↦ (let b : s.number < s.number = r.ascending j i s s l q p in absurd (omega arith)) | inr h ↦ omega arith ]
    ]

    counted : (wires : List WireId) → AreRestedOn f marked v wires → length steps ≡ steps_over f wires
    counted wires are =
        let up : length steps ≤ length (steps_of wires) = within_length steps (steps_of wires) (apart_by_place steps one_place) (λ s c. let o = r.only s c in in_steps_of wires o.0 s (are.all o.0 o.1) o.2 o.3) in
        let down : length (steps_of wires) ≤ length steps = within_length (steps_of wires) steps (apart_of wires (apart_by_place wires are.once)) (λ s c. let o = step_of wires s c in r.all s o.0 (are.only o.0 o.1) o.2 o.3) in
        le_antisymm up down ∙ length-steps_of wires

pub redone_is_counted : RedoneIsCounted
redone_is_counted f marked v steps wires r are = counted f marked v steps r wires are
