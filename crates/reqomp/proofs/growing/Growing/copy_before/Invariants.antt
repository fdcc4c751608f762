-- The edges that were copied so far.
use Rattle.std.proofs.Common.{◌≡◌, true, length}
use Rattle.reqomp.specs.Simple.{marked_at}
use Rattle.reqomp.specs.Growing.{HasGrown, IsSoundFor}
use Rattle.reqomp.proofs.Growth.{CopiesBefore}
use Rattle.reqomp.proofs.growing.Growing.copy_before.Given as goal

abbrev pub invariant-loop-x : goal.invariant-loop-x
invariant-loop-x l = record {
  level : l.self.level ≡ l.fn.self.level;
  grown : HasGrown l.fn.self.graph l.self.graph;
  sound : IsSoundFor l.flat (marked_at l.flat l.fn.self.level) l.self.graph;
  copies : CopiesBefore l.circuit l.ids l.fn.at l.to true l.self.graph l.edges;
}

abbrev pub decreases-loop-x : goal.decreases-loop-x
decreases-loop-x l = length l.edges
