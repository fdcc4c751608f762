-- So many of the wires so far are live.
use Rattle.std.proofs.Common.{◌≡◌, ◌≤◌, cond}
use Rattle.flat_core.specs.Label.{wire_id}
use Rattle.flat_mean.specs.Path.{sum_below}
use Rattle.move_plan.specs.Live.{live}
use Rattle.move_plan.specs.Track.{told}
use Rattle.move_plan.proofs.track.Track.count_live.Given as goal

abbrev pub invariant-loop-n : goal.invariant-loop-n
invariant-loop-n l = record {
  counted : l.count ≡ sum_below l.n (λ q. cond (live l.flat (told l.self) (wire_id q)) 1 0);
  few : l.count ≤ l.n;
}
