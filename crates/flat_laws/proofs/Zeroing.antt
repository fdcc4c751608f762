-- Wires of a variable that is equal to what it is said to be equal to.
use Rattle.std.proofs.Common.{◌≡◌, true, false, List, length, replicate, ap, ◌∙◌, subst}
use Rattle.silq_tree.specs.declared.node.NameId.{NameId}
use Rattle.silq_mean.specs.Value.{gone}
use Rattle.silq_mean.specs.Env.{found}
use Rattle.silq_mean.specs.Term.{Term, last as last_value, equals_last}
use Rattle.flat_core.specs.declared.step.WireId.{WireId}
use Rattle.flat_mean.specs.Row.{Row}
use Rattle.bit_arith.specs.Values.{bits_at, values_at}
use Rattle.bit_arith.specs.Values.{flip_bits}
use Rattle.bit_arith.proofs.Making.{bits_made, length-values}
use Rattle.flat_form.specs.declared.known.TypedBits.{TypedBits}
use Rattle.flat_form.specs.declared.known.Known.TheVariants.{Shown, Absent}
use Rattle.flat_form.specs.State.{Flattening, last, operands_of, typed_like, wires_in, are_wires}
use Rattle.flat_form.specs.Flat.{known_in}
use Rattle.flat_form.specs.Fine.{IsOf}
use Rattle.flat_form.specs.Shows.{Shows}
use Rattle.flat_form.proofs.Both.{found_both, first_both}
use Rattle.flat_form.proofs.Kept.{AllShow}
use Rattle.flat_laws.proofs.Taking.{wires_are}
use Rattle.flat_laws.proofs.Operators.{flip_self}
use Rattle.flat_laws.proofs.Showing.{claimed_bits}

-- where the claim is true the variable's wires are 0 after its flips
pub claim_zeros : (x : NameId) (s : Flattening) (a : TypedBits) (v y : Row) (t : Term) → known_in s x ≡ Shown a → are_wires a.operands ≡ true → IsOf (λ w. w.shape ≡ a.shape) (typed_like 0 (Shown a) (last s)) → AllShow v s t → equals_last x t ≡ true
    → values_at y (wires_in a.operands) ≡ flip_bits (values_at v (wires_in a.operands)) (bits_at v (operands_of (typed_like 0 (Shown a) (last s)))) → values_at y (wires_in a.operands) ≡ replicate (length (wires_in a.operands)) false
claim_zeros x s a v y t k w i h e q =
    let ws : List WireId = wires_in a.operands in
    let so : Shows v (Shown a) (found gone t.env x) = subst (λ z. Shows v z (found gone t.env x)) k (found_both (Shows v) Absent gone tt s.env t.env x h.env) in
    let c : bits_at v (operands_of (typed_like 0 (Shown a) (last s))) ≡ values_at v ws =
    claimed_bits v a (last s) (found gone t.env x) (last_value t) i so (first_both (Shows v) tt s.values t.values h.values) e
    ∙ (ap (bits_at v) (wires_are a.operands w) ∙ bits_made v ws) in
    q ∙ (ap (flip_bits (values_at v ws)) c ∙ (flip_self (values_at v ws) ∙ ap (λ m. replicate m false) (length-values v ws)))
