-- What is left may come, and the width is the greatest count so far or that of what is left.
use Rattle.std.proofs.Common.{◌≡◌, ◌≤◌, max, drop}
use Rattle.move_plan.specs.Progress.{AllStand}
use Rattle.move_plan.specs.Live.{live, count_wires, width, width_from}
use Rattle.move_plan.specs.Track.{HasRows, told}
use Rattle.move_plan.proofs.rows.most_live.Given as goal

abbrev pub invariant-loop-mv : goal.invariant-loop-mv
invariant-loop-mv l = record {
  rows : HasRows l.flat l.track;
  stand : AllStand l.flat (told l.track) (drop l.mv-index l.moves);
  count : l.live ≡ count_wires l.flat (live l.flat (told l.track));
  least : l.live ≤ l.most;
  widest : max l.most (width_from l.flat (told l.track) (drop l.mv-index l.moves)) ≡ width l.flat l.moves;
}
