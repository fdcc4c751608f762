use Rattle.move_plan.specs.Track.{told}
use Rattle.move_plan.proofs.Tracks.{end_told}
use Rattle.move_plan.proofs.track.Track.is_at_end.Goals as goal

pub returns-then-all_done : goal.returns-then-all_done
returns-then-all_done c = end_told c.args.flat.now (told c.args.self.now) (c.all_done.ensures.0 c.if-all_done.true) c.all_end.result c.all_end.ensures
