use Rattle.move_plan.specs.Track.{told, WireEnds}
use Rattle.move_plan.proofs.Tracks.{one_more_wire}
use Rattle.move_plan.proofs.track.Track.all_end.Goals as goal

pub loop-n-preserved : goal.loop-n-preserved
loop-n-preserved c = one_more_wire (WireEnds c.args.flat.now (told c.args.self.now)) c.loop-n.n c.loop-n.invariant (c.wire_ends.ensures.0 c.if-not-wire_ends.false)
