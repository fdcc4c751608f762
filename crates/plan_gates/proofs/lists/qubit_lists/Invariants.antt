-- The qubits of the first lists.
use Rattle.std.proofs.Common.{◌≡◌, Some, map, take}
use Rattle.qubit_alloc.specs.State.{qubit_told}
use Rattle.plan_gates.proofs.lists.qubit_lists.Given as goal

abbrev pub invariant-loop-i : goal.invariant-loop-i
invariant-loop-i l = map (map Some) l.told ≡ map (map (qubit_told l.placer)) (take l.i l.lists)
