-- What is left of the moves may come within the width.
use Rattle.std.proofs.Common.{◌≡◌, false, drop}
use Rattle.qubit_alloc.specs.State.{IsMadeFor, progress_of}
use Rattle.plan_gates.proofs.Loops.{GoesOn}
use Rattle.test_plan.proofs.texts.placed.Given as goal

abbrev pub invariant-loop-mv : goal.invariant-loop-mv
invariant-loop-mv l = record {
  made : IsMadeFor l.flat l.placer;
  going : l.placer.finished ≡ false;
  goes_on : GoesOn l.flat (progress_of l.placer) (drop l.mv-index l.moves) l.placer.width;
}
