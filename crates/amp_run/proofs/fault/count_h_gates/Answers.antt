use Rattle.std.proofs.Common.{◌≡◌, ℕ, ◌+◌, ◌<◌, List, [], ◌∷◌, take, length, get_or, slice_get, Some, ap, sym, ◌∙◌, arith}
use Rattle.std.proofs.lemmas.List.{take_more}
use Rattle.std.proofs.lemmas.List.Sums.{sum_by-append, sum_by-cons}
use Rattle.std.proofs.lemmas.Option.{get_or_from_slice_get}
use Rattle.gate_core.specs.declared.gate.Gate.{Gate}
use Rattle.amp_run.specs.Refusal.{h_gates, h_gates_in}
use Rattle.amp_run.proofs.fault.count_h_gates.Goals as goal

one_more : (gates : List Gate) (i : ℕ) (g : Gate) → i < length gates → slice_get gates i ≡ Some g → h_gates (take (i + 1) gates) ≡ h_gates (take i gates) + h_gates_in g
one_more gates i g h e =
    let last : h_gates (g ∷ []) ≡ h_gates_in g + h_gates [] = sum_by-cons h_gates_in g [] in
    ap h_gates (take_more gates i g h)
    ∙ sum_by-append h_gates_in (take i gates) (get_or gates i g ∷ [])
    ∙ ap (λ x. h_gates (take i gates) + h_gates (x ∷ [])) (get_or_from_slice_get gates i g g e)
    ∙ omega (arith, last)

pub loop-i-preserved : goal.loop-i-preserved
loop-i-preserved c =
    let more = one_more c.args.circuit.now.gates c.loop-i.i c.unwrap.result (let e = c.len-i-end.ensures.count in omega arith) (sym c.gate.ensures.statement ∙ c.unwrap.ensures) in
    let count = c.h_gates_of-count.ensures.count in
    let so_far = c.loop-i.invariant.counted in
    record { counted = omega arith; few = (let few = c.h_gates_of-count.ensures.few in let l = c.loop-i.invariant.few in omega arith) }
