-- The moves of the first ids.
use Rattle.std.proofs.Common.{◌≡◌, List, take}
use Rattle.graph_core.specs.declared.vertex.Vertex.{Vertex}
use Rattle.graph_core.specs.Arena.{AreVerticesOf}
use Rattle.move_plan.specs.AsMoves.{moves_of}
use Rattle.reqomp.proofs.circuit_moves.moves_in_order.Given as goal

abbrev pub invariant-loop-i : goal.invariant-loop-i
invariant-loop-i l = (order : List Vertex) → AreVerticesOf l.graph l.ids order → l.moves ≡ take l.i (moves_of l.flat order)
