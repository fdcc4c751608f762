-- Taken vertices by one flag for each id.
use Rattle.std.specs.Prelude.{◌≡◌, ◌<◌, Bool, true, false, List, map, length, get_or, Contains}
use Rattle.graph_core.specs.declared.vertex.Vertex.{Vertex}
use Rattle.graph_core.specs.declared.vertex.Vertex.TheVariants.{Forward}
use Rattle.graph_core.specs.declared.graph.VertexId.{VertexId}
use Rattle.graph_core.specs.declared.graph.Arrow.{Arrow}
use Rattle.graph_core.specs.Arena.{Arena}
use Rattle.flat_core.specs.Label.{step_id}
use Rattle.topo_order.specs.ReadyOrder.{GoesFirst}

-- the vertex of an id that is there
abbrev pub vertex_of : Arena → VertexId → Vertex
vertex_of g id = get_or g.vertices id.number (Forward (step_id 0))

abbrev pub vertices_of : Arena → List VertexId → List Vertex
vertices_of g ids = map (vertex_of g) ids

abbrev pub is_flagged : List Bool → VertexId → Bool
is_flagged flags v = get_or flags v.number false

-- an id can be taken next
pub record IsReadyAt (g : Arena) (flags : List Bool) (v : VertexId) : Type 0 where
  pub fresh : is_flagged flags v ≡ false
  pub after : (e : Arrow) → Contains g.arrows e → e.to.number ≡ v.number → is_flagged flags e.from ≡ true

-- an id is taken next
pub record IsNextAt (g : Arena) (flags : List Bool) (v : VertexId) : Type 0 where
  pub there : v.number < length g.vertices
  pub ready : IsReadyAt g flags v
  pub first : (u : VertexId) → u.number < length g.vertices → IsReadyAt g flags u → GoesFirst (vertex_of g v) (vertex_of g u)
