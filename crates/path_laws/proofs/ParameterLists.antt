-- The wires of the parameters are the first ones, as many for each parameter as its type has bits.
use Rattle.std.proofs.Common.{◌≡◌, ℕ, zero, suc, ◌+◌, List, [], ◌∷◌, length, map, refl, sym, ◌∙◌, ap, ap₂, arith}
use Rattle.std.proofs.Math.Path.{fun_ext}
use Rattle.std.proofs.lemmas.List.{reverse-reverse}
use Rattle.std.proofs.lemmas.Simd.{map-map}
use Rattle.sum_laws.specs.Terms.{positions}
use Rattle.silq_types.specs.declared.types.Shape.{Shape}
use Rattle.silq_types.specs.Types.{shape_bits}
use Rattle.silq_mean.specs.Table.{total_size}
use Rattle.flat_core.specs.declared.step.WireId.{WireId}
use Rattle.flat_core.specs.Label.{wire_id}
use Rattle.flat_core.specs.Drafts.{empty_draft}
use Rattle.flat_core.specs.Sound.{joined}
use Rattle.bit_arith.specs.Built.{Built, begun, wires_from}
use Rattle.bit_arith.proofs.Making.{length-from}
use Rattle.flat_form.specs.Flat.{inputs, input_wires, wire_lists}
use Rattle.flat_form.proofs.Giving.{in_made}
use Rattle.path_laws.specs.Laws.{ParametersComeFirst, ParametersHaveTheirBits}
use Rattle.flat_laws.proofs.EndsLists.{joined_inputs}

from_positions : (a n : ℕ) → wires_from a n ≡ map (λ i. wire_id (a + i)) (positions n)
from_positions a zero = refl
from_positions a (suc n) =
    ap₂ (λ (k : ℕ) (ws : List WireId). wire_id k ∷ ws) (plus_none a)
    (from_positions (suc a) n
    ∙ (ap (λ h. map h (positions n)) (fun_ext (λ i. ap wire_id (turn a i)))
    ∙ sym (map-map (λ i. wire_id (a + i)) suc (positions n))))
  where
    plus_none : (a : ℕ) → a ≡ a + 0
    plus_none a = omega arith

    turn : (a i : ℕ) → suc a + i ≡ a + suc i
    turn a i = omega arith

first_positions : (n : ℕ) → wires_from 0 n ≡ map wire_id (positions n)
first_positions n = from_positions 0 n ∙ ap (λ h. map h (positions n)) (fun_ext (λ i. ap wire_id (none_plus i)))
  where
    none_plus : (i : ℕ) → 0 + i ≡ i
    none_plus i = omega arith

pub parameters_come_first : ParametersComeFirst
parameters_come_first j =
    ap (λ ks. joined (wire_lists ks)) (reverse-reverse (inputs j.shapes (begun empty_draft)).answer)
    ∙ (joined_inputs j.shapes (begun empty_draft) ∙ first_positions (total_size j.shapes))

sizes : (ss : List Shape) (b : Built) → map length (wire_lists (inputs ss b).answer) ≡ map shape_bits ss
sizes [] b = refl
sizes (s ∷ ss) b =
    let n : ℕ = length b.draft.wires in
    ap₂ (λ (k : ℕ) (ks : List ℕ). k ∷ ks) (ap length (in_made (wires_from n (shape_bits s))) ∙ length-from n (shape_bits s)) (sizes ss (input_wires (shape_bits s) b))

pub parameters_have_their_bits : ParametersHaveTheirBits
parameters_have_their_bits j =
    ap (λ ks. map length (wire_lists ks)) (reverse-reverse (inputs j.shapes (begun empty_draft)).answer) ∙ sizes j.shapes (begun empty_draft)
