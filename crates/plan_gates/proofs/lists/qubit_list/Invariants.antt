-- The qubits of the first wires.
use Rattle.std.proofs.Common.{◌≡◌, Some, map, take}
use Rattle.qubit_alloc.specs.State.{qubit_told}
use Rattle.plan_gates.proofs.lists.qubit_list.Given as goal

abbrev pub invariant-loop-i : goal.invariant-loop-i
invariant-loop-i l = map Some l.told ≡ map (qubit_told l.placer) (take l.i l.wires)
