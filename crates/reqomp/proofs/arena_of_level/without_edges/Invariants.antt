-- The vertices of the first groups.
use Rattle.std.proofs.Common.{◌≡◌, [], take}
use Rattle.reqomp.specs.Grouping.{vertices_of}
use Rattle.reqomp.proofs.arena_of_level.without_edges.Given as goal

abbrev pub invariant-loop-group : goal.invariant-loop-group
invariant-loop-group l = record {
  vertices : l.graph.vertices ≡ vertices_of (take l.group-index l.groups);
  no_edges : l.graph.arrows ≡ [];
}
