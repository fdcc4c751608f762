use Rattle.std.proofs.Common.{◌≡◌, take}
use Rattle.sum_laws.specs.Terms.{pick}
use Rattle.table_write.proofs.outs.picked.Given as goal

-- the bits of the qubits so far
abbrev pub invariant-loop-qubit : goal.invariant-loop-qubit
invariant-loop-qubit l = l.list ≡ pick (take l.qubit-index l.order) l.bits
