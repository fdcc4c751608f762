-- The qubits so far are in the list, each once.
use Rattle.std.proofs.Common.{◌≡◌, ℕ, ◌+◌, ◌≤◌, cond, ◌&&◌, nat_lt, leb, length}
use Rattle.qubit_alloc.specs.State.{times_in}
use Rattle.qubit_alloc.proofs.placer.free_from.Given as goal

abbrev pub invariant-loop-qubit : goal.invariant-loop-qubit
invariant-loop-qubit l = record {
  counted : (j : ℕ) → times_in l.free.items j ≡ cond (leb l.from j && nat_lt j l.qubit) 1 0;
  few : length l.free.items + l.from ≡ l.qubit;
  room : l.width ≤ l.free.room;
}
