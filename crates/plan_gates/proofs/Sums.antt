-- Amplitudes of the bits of some qubits, of terms that are 0 on all others.
use Rattle.std.proofs.Common.{◌≡◌, ℕ, Bool, true, false, cond, List, [], ◌∷◌, All, map, length, refl, sym, ◌∙◌, ap, ap₂, subst}
use Rattle.std.proofs.lemmas.Bool.{both_ways}
use Rattle.std.proofs.lemmas.List.{length-map}
use Rattle.std.proofs.lemmas.List.Elements.{All-head, All-tail}
use Rattle.amp_core.specs.Amplitude.{none, plus}
use Rattle.sum_laws.specs.Terms.{same_bits, amplitude}
use Rattle.sum_laws.proofs.TermLists.{same_bits-refl, same_bits-equal}
use Rattle.flat_core.specs.declared.step.WireId.{WireId}
use Rattle.flat_core.specs.Label.{wire_id}
use Rattle.flat_mean.specs.Row.{Row}
use Rattle.flat_mean.specs.Terms.{Term, weight, values_of, seen_at}
use Rattle.gate_core.specs.Meaning.{bit_at}
use Rattle.gate_core.specs.Local.{Absent, AllDiffer, AllBelow}
use Rattle.plan_gates.specs.Registers.{register, registers}
use Rattle.plan_gates.proofs.Registers.{zero-register}
use Rattle.plan_gates.proofs.Spots.{on_zeros, register_is_placed, placed_apart}

pub tests_alike : (a b : Bool) → (a ≡ true → b ≡ true) → (b ≡ true → a ≡ true) → a ≡ b
tests_alike true b h k = sym (h refl)
tests_alike false true h k = k refl
tests_alike false false h k = refl

module _ (n : ℕ) (qs : List ℕ) (differ : AllDiffer qs) (below : AllBelow n qs) where
  -- a register has these bits on the qubits where the qubits have them
  same_on_zeros : (row : Row) (v : List Bool) → length v ≡ length qs → ((q : ℕ) → Absent q qs → row q ≡ false) → same_bits (register n row) (on_zeros n qs v) ≡ same_bits (map row qs) v
  same_on_zeros row v e zeros =
      ap (λ u. same_bits u (on_zeros n qs v)) is
      ∙ tests_alike (same_bits (on_zeros n qs (map row qs)) (on_zeros n qs v)) (same_bits (map row qs) v)
      (λ h. subst (λ w. same_bits (map row qs) w ≡ true) (placed_apart n qs differ below (map row qs) v (length-map qs row) e (same_bits-equal _ _ h)) (same_bits-refl (map row qs)))
      (λ h. subst (λ w. same_bits (on_zeros n qs (map row qs)) (on_zeros n qs w) ≡ true) (same_bits-equal (map row qs) v h) (same_bits-refl (on_zeros n qs (map row qs))))
    where
      is : register n row ≡ on_zeros n qs (map row qs)
      is = register_is_placed n qs differ below row zeros

  pub amplitude_on_zeros : (v : List Bool) (ts : List Term) → length v ≡ length qs → All (λ t. (q : ℕ) → Absent q qs → t.row q ≡ false) ts
      → amplitude (on_zeros n qs v) (registers n ts) ≡ amplitude v (map (λ t. (map t.row qs, weight t)) ts)
  unfolding amplitude
  amplitude_on_zeros v [] e zeros = refl
  amplitude_on_zeros v (t ∷ ts) e zeros =
      ap₂ (λ b x. cond b (plus (weight t) x) x)
      (same_on_zeros t.row v e (All-head (λ t. (q : ℕ) → Absent q qs → t.row q ≡ false) t ts zeros))
      (amplitude_on_zeros v ts e (All-tail (λ t. (q : ℕ) → Absent q qs → t.row q ≡ false) t ts zeros))

-- no term has a 1 where all are 0
pub amplitude_elsewhere : (n : ℕ) (u : List Bool) (q : ℕ) (ts : List Term) → bit_at u q ≡ true → All (λ t. t.row q ≡ false) ts → amplitude u (registers n ts) ≡ none
unfolding amplitude
amplitude_elsewhere n u q [] e zeros = refl
amplitude_elsewhere n u q (t ∷ ts) e zeros =
    ap (λ b. cond b (plus (weight t) (amplitude u (registers n ts))) (amplitude u (registers n ts))) (other (same_bits (register n t.row) u) refl)
    ∙ amplitude_elsewhere n u q ts e (All-tail (λ t. t.row q ≡ false) t ts zeros)
  where
    other : (b : Bool) → same_bits (register n t.row) u ≡ b → b ≡ false
    other false h = refl
    other true h =
        absurd (both_ways (bit_at u q) (ap (λ v. bit_at v q) (sym (same_bits-equal (register n t.row) u h)) ∙ zero-register n t.row q (All-head (λ t. t.row q ≡ false) t ts zeros)) e)

-- the bits of the qubits of some wires
pub values_on : (place : WireId → ℕ) (wires : List WireId) (row : Row) → map row (map place wires) ≡ values_of (map (λ w. wire_id (place w)) wires) row
values_on place [] row = refl
values_on place (w ∷ wires) row = ap (λ v. row (place w) ∷ v) (values_on place wires row)

pub seen_on : (place : WireId → ℕ) (wires : List WireId) (ts : List Term) → map (λ t. (map t.row (map place wires), weight t)) ts ≡ seen_at (map (λ w. wire_id (place w)) wires) ts
seen_on place wires [] = refl
seen_on place wires (t ∷ ts) = λ i. (values_on place wires t.row i, weight t) ∷ seen_on place wires ts i
