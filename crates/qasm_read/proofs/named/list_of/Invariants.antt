use Rattle.std.proofs.Common.{◌≡◌, take}
use Rattle.qasm_read.proofs.named.list_of.Given as goal

abbrev pub invariant-loop-qubit : goal.invariant-loop-qubit
invariant-loop-qubit l = l.list ≡ take l.qubit-index l.qubits
