-- Each wire so far is where it has to be at the end.
use Rattle.std.proofs.Common.{◌<◌}
use Rattle.flat_core.specs.declared.step.WireId.{WireId}
use Rattle.move_plan.specs.Track.{told, WireEnds}
use Rattle.move_plan.proofs.track.Track.all_end.Given as goal

abbrev pub invariant-loop-n : goal.invariant-loop-n
invariant-loop-n l = (w : WireId) → w.number < l.n → WireEnds l.flat (told l.self) w
