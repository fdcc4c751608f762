use Rattle.std.proofs.Common.{◌≡◌, ◌+◌, ◌*◌, ◌≤◌, ◌++◌, length, take}
use Rattle.graph_core.specs.Slots.{SlotEdge}
use Rattle.unqomp.specs.GraphOf.{HasEdges}
use Rattle.unqomp.specs.UseList.{InUses, uses_before}
use Rattle.unqomp.proofs.edges.add_uses.Given as goal

abbrev pub invariant-loop-u : goal.invariant-loop-u
invariant-loop-u l = record {
  same : l.graph.vertices ≡ l.initial.graph.vertices;
  edges : HasEdges l.graph (SlotEdge l.flat (InUses (take (length (uses_before l.flat l.fn.s.number) + l.u-index) (uses_before l.flat l.fn.s.number ++ l.u-items))));
  few : length l.graph.arrows ≤ 500000 + 2 * (length (uses_before l.flat l.fn.s.number) + l.u-index);
}
