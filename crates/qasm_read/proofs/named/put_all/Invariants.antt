use Rattle.std.proofs.Common.{take}
use Rattle.gate_core.specs.Circuit.{AddsAll}
use Rattle.qasm_read.proofs.named.put_all.Given as goal

abbrev pub invariant-loop-qubit : goal.invariant-loop-qubit
invariant-loop-qubit l = AddsAll l.fn.set.keys l.set.keys (take l.qubit-index l.qubits)
