-- What `graph_of` gives.
use Rattle.std.specs.Prelude.{◌≡◌, ◌↔◌, Contains}
use Rattle.flat_core.specs.Form.{FlatForm}
use Rattle.graph_core.specs.declared.vertex.Vertex.{Vertex}
use Rattle.graph_core.specs.declared.vertex.EdgeKind.{EdgeKind}
use Rattle.graph_core.specs.declared.graph.Arrow.{Arrow}
use Rattle.graph_core.specs.Arena.{Arena, IsVertexOf, digraph_of}
use Rattle.graph_core.specs.Digraph.{IsSame}
use Rattle.graph_core.specs.Circuit.{IsVertex, Uses, Edge, circuit_graph}

-- an edge of a kind between two vertices, by their ids
pub record HasArrowOf (g : Arena) (kind : EdgeKind) (u v : Vertex) : Type 0 where
  pub arrow : Arrow
  pub there : Contains g.arrows arrow
  pub is_kind : arrow.kind ≡ kind
  pub from : IsVertexOf g arrow.from u
  pub to : IsVertexOf g arrow.to v

-- an arena has exactly these vertices
abbrev pub HasVertices : Arena → (Vertex → Type 0) → Type 0
HasVertices g IsOne = (v : Vertex) → Contains g.vertices v ↔ IsOne v

-- an arena has exactly these edges
abbrev pub HasEdges : Arena → (EdgeKind → Vertex → Vertex → Type 0) → Type 0
HasEdges g IsEdge = (kind : EdgeKind) (u v : Vertex) → HasArrowOf g kind u v ↔ IsEdge kind u v

-- an arena has exactly the vertices and the edges of the circuit graph
pub record IsGraphOf (f : FlatForm) (g : Arena) : Type 0 where
  pub vertices : HasVertices g (IsVertex f)
  pub edges : HasEdges g (Edge f (Uses f))

-- such an arena is the circuit graph
abbrev pub GraphIsCircuit : Type 0
GraphIsCircuit = (f : FlatForm) (g : Arena) → IsGraphOf f g → IsSame (digraph_of g) (circuit_graph f)
