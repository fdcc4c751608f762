-- The edges of the first steps done again.
use Rattle.std.proofs.Common.{◌≡◌}
use Rattle.reqomp.specs.Simple.{marked_at}
use Rattle.reqomp.specs.Growing.{HasGrown, IsSoundFor}
use Rattle.reqomp.proofs.GroupEdges.{HasFirstEdges}
use Rattle.reqomp.proofs.growing.Growing.add_group_edges.Given as goal

abbrev pub invariant-loop-t : goal.invariant-loop-t
invariant-loop-t l = record {
  level : l.self.level ≡ l.fn.self.level;
  grown : HasGrown l.fn.self.graph l.self.graph;
  sound : IsSoundFor l.flat (marked_at l.flat l.fn.self.level) l.self.graph;
  first : HasFirstEdges l.flat l.group l.t-index l.self.graph;
}
