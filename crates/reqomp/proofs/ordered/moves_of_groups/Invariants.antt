-- The moves of the first vertices of the order.
use Rattle.std.proofs.Common.{List, take}
use Rattle.flat_core.specs.declared.step.WireId.{WireId}
use Rattle.graph_core.specs.declared.vertex.Vertex.{Vertex}
use Rattle.graph_core.specs.Arena.{AreVerticesOf}
use Rattle.reqomp.specs.Level.{AreMoves}
use Rattle.reqomp.specs.Trying.{AreRedone}
use Rattle.reqomp.proofs.ordered.moves_of_groups.Given as goal

abbrev pub invariant-loop-i : goal.invariant-loop-i
invariant-loop-i l = (marked : List WireId) (order : List Vertex) → AreRedone l.flat marked l.groups → AreVerticesOf l.graph l.ids order → AreMoves l.flat marked (take l.i order) l.moves
