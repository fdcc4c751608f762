use Rattle.std.proofs.Common.{◌≡◌, ◌++◌, drop}
use Rattle.gate_core.specs.Meaning.{joined}
use Rattle.amp_run.proofs.start.joined_qubits.Given as goal

-- with the lists that are left, all qubits are there
abbrev pub invariant-loop-list : goal.invariant-loop-list
invariant-loop-list l = l.qubits.items ++ joined (drop l.list-index l.list-items) ≡ joined l.lists
