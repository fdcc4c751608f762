-- The inputs so far are placed in their order.
use Rattle.std.proofs.Common.{◌≡◌, ◌<◌, ◌≤◌, cond, ◌&&◌, nat_lt, length, get_or, None, Some}
use Rattle.flat_core.specs.Label.{is_input}
use Rattle.flat_core.specs.declared.step.WireId.{WireId}
use Rattle.flat_mean.specs.Path.{inputs_before}
use Rattle.qubit_alloc.proofs.placer.place_inputs.Given as goal

abbrev pub invariant-loop-n : goal.invariant-loop-n
invariant-loop-n l = record {
  rows : length l.qubits.items ≡ length l.flat.wires;
  count : l.next ≡ inputs_before l.flat.wires l.n;
  few : l.next ≤ l.n;
  told : (w : WireId) → w.number < length l.flat.wires → get_or l.qubits.items w.number None ≡ cond (is_input l.flat w && nat_lt w.number l.n) (Some (inputs_before l.flat.wires w.number)) None;
}
