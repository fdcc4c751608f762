-- What was passed is not the edge, and what is left stood there before.
use Rattle.std.proofs.Common.{length, Contains}
use Rattle.graph_core.specs.declared.graph.VertexId.{VertexId}
use Rattle.graph_core.specs.declared.vertex.EdgeKind.{EdgeKind}
use Rattle.reqomp.proofs.growing.has_end.Given as goal

abbrev pub invariant-loop-v : goal.invariant-loop-v
invariant-loop-v l = record {
  still : Contains l.initial.edges (l.other, l.kind) → Contains l.edges (l.other, l.kind);
  inside : (x : VertexId × EdgeKind) → Contains l.edges x → Contains l.initial.edges x;
}

abbrev pub decreases-loop-v : goal.decreases-loop-v
decreases-loop-v l = length l.edges
