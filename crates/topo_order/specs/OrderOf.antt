-- What `order` answers.
use Rattle.std.specs.Prelude.{List, Result, Ok, Err, ⊤}
use Rattle.graph_core.specs.declared.vertex.Vertex.{Vertex}
use Rattle.graph_core.specs.declared.graph.VertexId.{VertexId}
use Rattle.graph_core.specs.Arena.{Arena, AreVerticesOf, digraph_of}
use Rattle.topo_order.specs.declared.vertex_order.OrderFault.{OrderFault}
use Rattle.topo_order.specs.declared.vertex_order.OrderFault.TheVariants.{Memory, Cycle}
use Rattle.topo_order.specs.ReadyOrder.{IsReadyOrder}

-- some ids are those of the ready order's vertices
pub record IsOrderOf (g : Arena) (ids : List VertexId) : Type 0 where
  pub order : List Vertex
  pub ids_of : AreVerticesOf g ids order
  pub ready : IsReadyOrder (digraph_of g) order

-- something holds of the cycle, where that is the answer
abbrev pub IfCycle : {T : Type 0} → Result T OrderFault → (List Vertex → Type 0) → Type 0
IfCycle (Ok ids) Holds = ⊤
IfCycle (Err Memory) Holds = ⊤
IfCycle (Err (Cycle vertices)) Holds = Holds vertices
