-- A vertex more, with the Target edge from the last vertex of its chain.
use Rattle.std.specs.Prelude.{◌≡◌, ◌-◌, ◌<◌, List, [], ◌∷◌, length, slice_get, Option, Some, None, Contains}
use Rattle.graph_core.specs.declared.vertex.Vertex.{Vertex}
use Rattle.graph_core.specs.declared.vertex.EdgeKind.TheVariants.{Target}
use Rattle.graph_core.specs.declared.graph.VertexId.{VertexId}
use Rattle.graph_core.specs.declared.graph.Arrow.{Arrow}
use Rattle.graph_core.specs.Arena.{Arena, with_vertex, with_arrows}
use Rattle.unqomp.specs.Making.{vertex_id}

-- the last id of a chain, if there is one
abbrev pub last_of : List VertexId → Option VertexId
last_of ids = slice_get ids (length ids - 1)

-- the Target edge from the vertex before, if there is one
abbrev pub target_arrow : VertexId → VertexId → Arrow
target_arrow before id = record { from = before; to = id; kind = Target }

abbrev pub target_arrows : Option VertexId → VertexId → List Arrow
target_arrows None id = []
target_arrows (Some before) id = target_arrow before id ∷ []

-- an arena with a new vertex at the end of a chain
abbrev pub linked : Arena → List VertexId → Vertex → Arena
linked g ids v = with_arrows (with_vertex g v) (target_arrows (last_of ids) (vertex_id (length g.vertices)))

-- a vertex may be added at the end of a chain: the last vertex is there, and no Target edge leaves it
pub record IsLinkable (g : Arena) (ids : List VertexId) : Type 0 where
  pub there : (before : VertexId) → last_of ids ≡ Some before → before.number < length g.vertices
  pub free : (before : VertexId) → last_of ids ≡ Some before → (d : Arrow) → Contains g.arrows d → d.kind ≡ Target → d.from ≡ before → ⊥
