-- What stands near the first vertices.
use Rattle.std.proofs.Common.{◌≡◌, length, slice_get, Some}
use Rattle.graph_core.specs.declared.graph.VertexId.{VertexId}
use Rattle.reqomp.specs.declared.near.Near.{Near}
use Rattle.reqomp.specs.Growing.{IsNear}
use Rattle.reqomp.proofs.near.near_vertices.Given as goal

abbrev pub invariant-loop-i : goal.invariant-loop-i
invariant-loop-i l = record {
  as_many : length l.near.items ≡ l.i;
  at : (at : VertexId) (row : Near) → slice_get l.near.items at.number ≡ Some row → IsNear l.circuit at row;
}
