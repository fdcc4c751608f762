-- What is left of the moves may come, and leads to the end.
use Rattle.std.proofs.Common.{◌≡◌, false, drop}
use Rattle.move_plan.specs.Progress.{at_start, progress}
use Rattle.qubit_alloc.specs.Place.{Place, first_place, place_all}
use Rattle.qubit_alloc.specs.State.{IsMadeFor, Tells, progress_of}
use Rattle.plan_gates.proofs.Loops.{GoesOn, LeadsTo}
use Rattle.bench_place.proofs.write_plan.Given as goal

abbrev pub invariant-loop-mv : goal.invariant-loop-mv
invariant-loop-mv g l = record {
  made : IsMadeFor l.flat l.placer;
  going : l.placer.finished ≡ false;
  width : l.placer.width ≡ l.width;
  goes_on : GoesOn l.flat (progress_of l.placer) (drop l.mv-index l.moves) l.placer.width;
  place : Place;
  tells : Tells l.flat l.placer place;
  leads : LeadsTo l.flat (progress_of l.placer) place (drop l.mv-index l.moves) (progress l.flat at_start l.moves) (place_all l.flat at_start (first_place l.flat) l.moves);
}
