-- What is left may come exactly where the whole list may, and reaches what it reaches.
use Rattle.std.proofs.Common.{◌≡◌, ◌↔◌, drop}
use Rattle.move_plan.specs.Progress.{at_start, AllStand, progress}
use Rattle.move_plan.specs.Track.{HasRows, told}
use Rattle.move_plan.proofs.rows.all_stand.Given as goal

abbrev pub invariant-loop-mv : goal.invariant-loop-mv
invariant-loop-mv l = record {
  rows : HasRows l.flat l.track;
  stand : AllStand l.flat at_start l.moves ↔ AllStand l.flat (told l.track) (drop l.mv-index l.moves);
  end : progress l.flat at_start l.moves ≡ progress l.flat (told l.track) (drop l.mv-index l.moves);
}
