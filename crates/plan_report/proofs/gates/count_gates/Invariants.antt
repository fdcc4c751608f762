-- What is left of the moves may come, and what was counted and the gates that are left are all gates.
use Rattle.std.proofs.Common.{◌≡◌, ◌+◌, ◌*◌, ◌≤◌, false, length, drop}
use Rattle.qubit_alloc.specs.Place.{Place}
use Rattle.qubit_alloc.specs.State.{IsMadeFor, Tells, progress_of}
use Rattle.plan_gates.specs.PlanCircuit.{gates_of_plan}
use Rattle.plan_gates.proofs.Loops.{GoesOn}
use Rattle.plan_report.proofs.Count.{count_left}
use Rattle.plan_report.proofs.gates.count_gates.Given as goal

abbrev pub invariant-loop-mv : goal.invariant-loop-mv
invariant-loop-mv l = record {
  made : IsMadeFor l.flat l.placer;
  going : l.placer.finished ≡ false;
  goes_on : GoesOn l.flat (progress_of l.placer) (drop l.mv-index l.moves) l.placer.width;
  place : Place;
  tells : Tells l.flat l.placer place;
  counted : l.count + count_left l.flat (progress_of l.placer) place (drop l.mv-index l.moves) ≡ length (gates_of_plan l.flat l.moves);
  few : l.count ≤ 9 * l.mv-index;
}
