-- Lists that name some wires, each once.
use Rattle.std.proofs.Common.{◌≡◌, ℕ, zero, suc, ◌+◌, ◌≤◌, ◌<◌, Bool, true, false, ◌||◌, List, [], ◌∷◌, ◌++◌, length, Some, slice_get, refl, sym, ap, ap₂, ◌∙◌, subst, arith, ◌⊎◌, inl, inr}
use Rattle.std.specs.Prelude.{get_or, Contains}
use Rattle.std.proofs.lemmas.Bool.{eq-eqb, cases_lt, cases_eq, or_left, or_right}
use Rattle.std.proofs.lemmas.List.Folds.{list_any_at}
use Rattle.std.proofs.lemmas.Map.Views.{Contains-from_any}
use Rattle.silq_types.specs.declared.types.Shape.{Shape}
use Rattle.silq_types.specs.Types.{shape_bits}
use Rattle.silq_mean.specs.Table.{total_size}
use Rattle.flat_core.specs.declared.step.Step.{Step}
use Rattle.flat_core.specs.declared.step.WireId.{WireId}
use Rattle.flat_core.specs.declared.step.StepId.{StepId}
use Rattle.flat_core.specs.Label.{same_wire, wire_id, step_id, no_step}
use Rattle.flat_core.specs.Ends.{measures}
use Rattle.flat_core.specs.Drafts.{is_measured}
use Rattle.flat_core.specs.Sound.{joined, NamesExactly}
use Rattle.flat_core.proofs.Labels.{same_wire_is, same_wire-refl}
use Rattle.bit_arith.specs.Built.{Built, wires_from}
use Rattle.bit_arith.specs.Calls.{among}
use Rattle.bit_arith.specs.Does.{Below, Different}
use Rattle.bit_arith.proofs.Steps.{clash}
use Rattle.bit_arith.proofs.Making.{among_past, different_from}
use Rattle.flat_form.specs.Flat.{inputs, input_wires, wire_lists, joined as all_joined}
use Rattle.flat_form.proofs.Giving.{in_made}
use Rattle.flat_laws.proofs.Begins.{length-inputs}

-- ---- lists that name some wires

pub record Exactly (ws : List WireId) (IsOne : WireId → Type 0) : Type 0 where
  pub only : (w : WireId) → Contains ws w → IsOne w
  pub each : (w : WireId) → IsOne w → Contains ws w
  pub once : (i j : ℕ) (w : WireId) → slice_get ws i ≡ Some w → slice_get ws j ≡ Some w → i ≡ j

pub names_by : (lists : List (List WireId)) (ws : List WireId) (IsOne : WireId → Type 0) → joined lists ≡ ws → Exactly ws IsOne → NamesExactly lists IsOne
names_by lists ws IsOne e x =
    let y : Exactly (joined lists) IsOne = subst (λ us. Exactly us IsOne) (sym e) x in
    record { only = y.only; each = y.each; once = y.once }

pub contains_among : (ws : List WireId) (w : WireId) → Contains ws w → among ws w ≡ true
contains_among ws w c = list_any_at (same_wire w) ws c.0 w c.1 (ap (same_wire w) c.2 ∙ same_wire-refl w)

pub among_contains : (ws : List WireId) (w : WireId) → among ws w ≡ true → Contains ws w
among_contains ws w h = Contains-from_any same_wire_is w ws h

some_is : (a b : WireId) → Some a ≡ Some b → a ≡ b
some_is a b e = cc

at_among : (ws : List WireId) (j : ℕ) (w : WireId) → slice_get ws j ≡ Some w → among ws w ≡ true
at_among [] j w e = absurd cc
at_among (v ∷ ws) zero w e = or_left (same_wire w v) (among ws w) (ap (same_wire w) (some_is v w e) ∙ same_wire-refl w)
at_among (v ∷ ws) (suc j) w e = or_right (same_wire w v) (among ws w) (at_among ws j w e)

pub once_different : (ws : List WireId) → Different ws → (i j : ℕ) (w : WireId) → slice_get ws i ≡ Some w → slice_get ws j ≡ Some w → i ≡ j
once_different [] d i j w e f = absurd cc
once_different (v ∷ ws) d zero zero w e f = refl
once_different (v ∷ ws) d zero (suc j) w e f = absurd (clash (sym d.0 ∙ (ap (among ws) (some_is v w e) ∙ at_among ws j w f)))
once_different (v ∷ ws) d (suc i) zero w e f = absurd (clash (sym d.0 ∙ (ap (among ws) (some_is v w f) ∙ at_among ws i w e)))
once_different (v ∷ ws) d (suc i) (suc j) w e f = ap suc (once_different ws d.1 i j w e f)

pub below_among : (n : ℕ) (ws : List WireId) (w : WireId) → Below n ws → among ws w ≡ true → w.number < n
below_among n ws w h a = at ws h (among_contains ws w a).0 w (among_contains ws w a).1 (among_contains ws w a).2
  where
    at : (ws : List WireId) → Below n ws → (k : ℕ) (w : WireId) → k < length ws → get_or ws k w ≡ w → w.number < n
    at [] h k w lt e = absurd (omega (arith, lt))
    at (v ∷ ws) h zero w lt e = subst (λ (x : WireId). x.number < n) e h.0
    at (v ∷ ws) h (suc k) w lt e = at ws h.1 k w (omega (arith, lt)) e

among_within : (a n : ℕ) (w : WireId) → a ≤ w.number → w.number < a + n → among (wires_from a n) w ≡ true
among_within a zero w le lt = absurd (omega (arith, le, lt))
among_within a (suc n) w le lt = elim (cases_eq w.number a) [
  | inl e ↦ or_left (same_wire w (wire_id a)) (among (wires_from (suc a) n) w) (eq-eqb w.number a e)
  | inr f ↦ or_right (same_wire w (wire_id a)) (among (wires_from (suc a) n) w) (among_within (suc a) n w (omega (arith, le, f)) (omega (arith, lt)))
]

-- the first n wires
pub first_wires : (n : ℕ) (IsOne : WireId → Type 0) → ((w : WireId) → w.number < n → IsOne w) → ((w : WireId) → IsOne w → w.number < n) → Exactly (wires_from 0 n) IsOne
first_wires n IsOne f g = record {
  only = λ w c. f w (within w (contains_among (wires_from 0 n) w c) (cases_lt w.number n));
  each = λ w i. let lt = g w i in among_contains (wires_from 0 n) w (among_within 0 n w (omega arith) (omega (arith, lt)));
  once = once_different (wires_from 0 n) (different_from 0 n);
}
  where
    within : (w : WireId) → among (wires_from 0 n) w ≡ true → (w.number < n) ⊎ (n ≤ w.number) → w.number < n
    within w a (inl lt) = lt
    within w a (inr le) = absurd (clash (sym (among_past 0 n w (omega (arith, le))) ∙ a))

-- ---- the lists of parameters

from_append : (n k m : ℕ) → wires_from n k ++ wires_from (n + k) m ≡ wires_from n (k + m)
from_append n zero m = ap₂ wires_from (plus_none n) (none_plus m)
  where
    plus_none : (n : ℕ) → n + 0 ≡ n
    plus_none n = omega arith

    none_plus : (m : ℕ) → m ≡ 0 + m
    none_plus m = omega arith
from_append n (suc k) m =
    ap (λ ws. wire_id n ∷ ws) (ap (λ i. wires_from (suc n) k ++ wires_from i m) (turn n k) ∙ from_append (suc n) k m)
    ∙ ap (wires_from n) (up k m)
  where
    turn : (n k : ℕ) → n + suc k ≡ suc n + k
    turn n k = omega arith

    up : (k m : ℕ) → suc (k + m) ≡ suc k + m
    up k m = omega arith

pub joined_inputs : (ss : List Shape) (b : Built) → joined (wire_lists (inputs ss b).answer) ≡ wires_from (length b.draft.wires) (total_size ss)
joined_inputs [] b = refl
joined_inputs (s ∷ ss) b =
    let n : ℕ = length b.draft.wires in
    let k : ℕ = shape_bits s in
    ap₂ ◌++◌ (in_made (wires_from n k)) (joined_inputs ss (input_wires k b) ∙ ap (λ m. wires_from m (total_size ss)) (length-inputs k b))
    ∙ from_append n k (total_size ss)

pub joined_same : (lists : List (List WireId)) → joined lists ≡ all_joined lists
joined_same [] = refl
joined_same (ws ∷ lists) = ap (λ us. ws ++ us) (joined_same lists)

-- ---- steps that measure

pub place : (w : WireId) (ss : List Step) → is_measured ss w ≡ true → (t : StepId) × (t.number < length ss) × (measures w (get_or ss t.number no_step) ≡ true)
place w [] m = absurd (clash m)
place w (s ∷ ss) m = pick (measures w s) refl m (place w ss)
  where
    pick : (c : Bool) → measures w s ≡ c → c || is_measured ss w ≡ true → (is_measured ss w ≡ true → (t : StepId) × (t.number < length ss) × (measures w (get_or ss t.number no_step) ≡ true)) → (t : StepId) × (t.number < length (s ∷ ss)) × (measures w (get_or (s ∷ ss) t.number no_step) ≡ true)
    pick true e m rest = (step_id 0, omega arith, e)
    pick false e m rest = let (t, lt, q) = rest m in (step_id (suc t.number), omega (arith, lt), q)
