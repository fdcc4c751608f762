-- Each step so far that is not undone again is done.
use Rattle.std.proofs.Common.{◌≡◌, ◌<◌, false, true}
use Rattle.flat_core.specs.declared.step.StepId.{StepId}
use Rattle.flat_core.specs.Ends.{undone}
use Rattle.move_plan.specs.Track.{told}
use Rattle.move_plan.proofs.track.Track.all_done.Given as goal

abbrev pub invariant-loop-n : goal.invariant-loop-n
invariant-loop-n l = (s : StepId) → s.number < l.n → undone l.flat s ≡ false → (told l.self).done s ≡ true
