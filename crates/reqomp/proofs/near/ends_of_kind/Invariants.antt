-- The ends that were found so far.
use Rattle.std.proofs.Common.{length}
use Rattle.reqomp.proofs.NearEnds.{AreEndsBut}
use Rattle.reqomp.proofs.near.ends_of_kind.Given as goal

abbrev pub invariant-loop-x : goal.invariant-loop-x
invariant-loop-x l = AreEndsBut l.kind l.initial.edges l.edges l.ends.items

abbrev pub decreases-loop-x : goal.decreases-loop-x
decreases-loop-x l = length l.edges
