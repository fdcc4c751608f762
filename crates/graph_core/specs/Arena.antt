-- The value of a graph: its vertices by their ids, and its edges.
use Rattle.std.specs.Prelude.{◌≡◌, ℕ, ◌<◌, ◌^◌, List, [], ◌∷◌, ◌++◌, length, slice_get, Option, Some, None, Contains, ⊤}
use Rattle.graph_core.specs.declared.vertex.Vertex.{Vertex}
use Rattle.graph_core.specs.declared.vertex.EdgeKind.TheVariants.{Target, Control, Availability}
use Rattle.graph_core.specs.declared.graph.VertexId.{VertexId}
use Rattle.graph_core.specs.declared.graph.Arrow.{Arrow}
use Rattle.graph_core.specs.Digraph.{Digraph}

pub record Arena : Type 0 where
  pub vertices : List Vertex
  pub arrows : List Arrow

-- the id's vertex
abbrev pub IsVertexOf : Arena → VertexId → Vertex → Type 0
IsVertexOf g id v = slice_get g.vertices id.number ≡ Some v

-- some ids are those of some vertices, one by one
abbrev pub AreVerticesOf : Arena → List VertexId → List Vertex → Type 0
AreVerticesOf g [] [] = ⊤
AreVerticesOf g [] (v ∷ vertices) = ⊥
AreVerticesOf g (id ∷ ids) [] = ⊥
AreVerticesOf g (id ∷ ids) (v ∷ vertices) = IsVertexOf g id v × AreVerticesOf g ids vertices

-- an edge between two vertices, by their ids
pub record HasArrow (g : Arena) (u v : Vertex) : Type 0 where
  pub arrow : Arrow
  pub there : Contains g.arrows arrow
  pub from : IsVertexOf g arrow.from u
  pub to : IsVertexOf g arrow.to v

abbrev pub digraph_of : Arena → Digraph
digraph_of g = record { IsVertex = Contains g.vertices; HasEdge = HasArrow g }

-- what holds of every arena
pub record IsArena (g : Arena) : Type 0 where
  pub ends : (e : Arrow) → Contains g.arrows e → (e.from.number < length g.vertices) × (e.to.number < length g.vertices)
  pub few : length g.vertices < 2 ^ 32
  pub few_edges : length g.arrows < 2 ^ 32
  pub one_id : (i j : ℕ) (v : Vertex) → slice_get g.vertices i ≡ Some v → slice_get g.vertices j ≡ Some v → i ≡ j
  pub one_edge : (i j : ℕ) (e : Arrow) → slice_get g.arrows i ≡ Some e → slice_get g.arrows j ≡ Some e → i ≡ j
  pub one_out : (d e : Arrow) → Contains g.arrows d → Contains g.arrows e → d.kind ≡ Target → e.kind ≡ Target → d.from ≡ e.from → d ≡ e
  pub one_in : (d e : Arrow) → Contains g.arrows d → Contains g.arrows e → d.kind ≡ Target → e.kind ≡ Target → d.to ≡ e.to → d ≡ e

-- the edges that a use adds: one from the holder to the user, and one from the user to the next on the chain, if any
abbrev pub control : VertexId → VertexId → Arrow
control holder user = record { from = holder; to = user; kind = Control }

abbrev pub availability : VertexId → VertexId → Arrow
availability user next = record { from = user; to = next; kind = Availability }

abbrev pub use_arrows : VertexId → VertexId → Option VertexId → List Arrow
use_arrows holder user None = control holder user ∷ []
use_arrows holder user (Some next) = control holder user ∷ availability user next ∷ []

-- an arena with more vertices, and with more edges
abbrev pub with_vertex : Arena → Vertex → Arena
with_vertex g v = record { vertices = g.vertices ++ v ∷ []; arrows = g.arrows }

abbrev pub with_arrows : Arena → List Arrow → Arena
with_arrows g more = record { vertices = g.vertices; arrows = g.arrows ++ more }

-- an edge may be added: its ends are there, it is new, and a Target edge has no other beside it
pub record IsFreeFor (g : Arena) (e : Arrow) : Type 0 where
  pub ends : (e.from.number < length g.vertices) × (e.to.number < length g.vertices)
  pub fresh : ¬ Contains g.arrows e
  pub first_out : e.kind ≡ Target → (d : Arrow) → Contains g.arrows d → d.kind ≡ Target → d.from ≡ e.from → ⊥
  pub first_in : e.kind ≡ Target → (d : Arrow) → Contains g.arrows d → d.kind ≡ Target → d.to ≡ e.to → ⊥
