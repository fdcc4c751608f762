-- The Output wires so far are placed.
use Rattle.std.proofs.Common.{◌≡◌, length}
use Rattle.qubit_alloc.specs.Place.{Place, on_below, place_outputs}
use Rattle.qubit_alloc.specs.State.{told, progress_of, TellsOf, Tells, IsSeated, HasEvenRows, times_in}
use Rattle.qubit_alloc.proofs.Moving.{rows_told}
use Rattle.qubit_alloc.proofs.placer.Placer.finish.Given as goal

abbrev pub invariant-loop-n : goal.invariant-loop-n
invariant-loop-n l = record {
  even : HasEvenRows l.self-inside.track l.self-inside.qubits.items l.self-inside.numbers.items l.self-inside.free l.self-inside.width;
  wires : length l.self-inside.track.labels.items ≡ length l.flat.wires;
  steps : length l.self-inside.track.done.items ≡ length l.flat.steps;
  progress : told l.self-inside.track ≡ progress_of l.fn.self;
  numbers : l.self-inside.numbers.items ≡ l.fn.self.numbers;
  width : l.self-inside.width ≡ l.fn.self.width;
  tells : (place : Place) → Tells l.flat l.fn.self place → TellsOf l.flat (on_below l.flat (progress_of l.fn.self) l.n) (place_outputs l.flat (progress_of l.fn.self) place l.n) (rows_told l.self-inside.qubits.items);
  seated : (place : Place) → Tells l.flat l.fn.self place → IsSeated l.flat (on_below l.flat (progress_of l.fn.self) l.n) l.fn.self.width (place_outputs l.flat (progress_of l.fn.self) place l.n) (times_in l.self-inside.free.items);
}
