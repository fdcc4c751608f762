-- Vertices and edges in rows: each vertex names the first edge of its two lists, each edge the next one in the lists of its ends.
use Rattle.std.specs.Prelude.{◌≡◌, ℕ, ◌+◌, ◌<◌, ◌≤◌, Bool, true, false, List, [], map, length, reverse, take, slice_get, Option, Some, None, ⊤}
use Rattle.graph_core.specs.declared.vertex.Vertex.{Vertex}
use Rattle.graph_core.specs.declared.vertex.EdgeKind.{EdgeKind}
use Rattle.graph_core.specs.declared.graph.VertexId.{VertexId}
use Rattle.graph_core.specs.declared.graph.EdgeId.{EdgeId}
use Rattle.graph_core.specs.declared.graph.Arrow.{Arrow}
use Rattle.graph_core.specs.declared.links.Links.{Links}
use Rattle.graph_core.specs.declared.links.VertexRow.{VertexRow}
use Rattle.graph_core.specs.declared.links.EdgeRow.{EdgeRow}
use Rattle.graph_core.specs.Arena.{Arena, IsArena}
use Rattle.graph_core.specs.EdgesAt.{meets, edges_at}

-- the link in the list of the edges that enter a vertex, or else of those that leave it
abbrev pub link : Bool → Links → Option EdgeId
link true l = l.entering
link false l = l.leaving

abbrev pub with_link : Bool → EdgeId → Links → Links
with_link true id l = record { leaving = l.leaving; entering = Some id }
with_link false id l = record { leaving = Some id; entering = l.entering }

-- the vertex that an edge enters, or else the one that it leaves
abbrev pub end_at : Bool → Arrow → VertexId
end_at true e = e.to
end_at false e = e.from

abbrev pub vertices_in : List VertexRow → List Vertex
vertices_in rows = map (λ (row : VertexRow). row.vertex) rows

abbrev pub arrows_in : List EdgeRow → List Arrow
arrows_in rows = map (λ (row : EdgeRow). row.arrow) rows

abbrev pub arena_in : List VertexRow → List EdgeRow → Arena
arena_in vertices edges = record { vertices = vertices_in vertices; arrows = arrows_in edges }

-- of the first n edges, one is the last at a vertex
pub record IsLastEdge (entering : Bool) (v : VertexId) (arrows : List Arrow) (n : ℕ) (id : EdgeId) : Type 0 where
  pub before : id.number < n
  pub edge : Arrow
  pub at : slice_get arrows id.number ≡ Some edge
  pub there : meets entering v edge ≡ true
  pub last : edges_at entering v (take n arrows) ≡ edges_at entering v (take (id.number + 1) arrows)

-- a link names the last of the first n edges at a vertex, and nothing where there is none
abbrev pub IsLast : Bool → VertexId → List Arrow → ℕ → Option EdgeId → Type 0
IsLast entering v arrows n None = edges_at entering v (take n arrows) ≡ []
IsLast entering v arrows n (Some id) = IsLastEdge entering v arrows n id

-- each of the first n edges names at each of its ends the last edge before it there
abbrev pub AreNexts : List EdgeRow → ℕ → Type 0
AreNexts edges n = (entering : Bool) (i : ℕ) (row : EdgeRow) → i < n → slice_get edges i ≡ Some row → IsLast entering (end_at entering row.arrow) (arrows_in edges) i (link entering row.next)

-- each vertex names the last of the first n edges at it, in each direction
abbrev pub AreFirsts : List VertexRow → List EdgeRow → ℕ → Type 0
AreFirsts vertices edges n = (entering : Bool) (v : VertexId) (row : VertexRow) → slice_get vertices v.number ≡ Some row → IsLast entering v (arrows_in edges) n (link entering row.first)

-- the first n edges are linked: from a vertex's first edge on, each list has all edges of that vertex in that direction
-- and no others, the newest first, so that it runs in no circle
pub record AreLinked (vertices : List VertexRow) (edges : List EdgeRow) (n : ℕ) : Type 0 where
  pub within : n ≤ length edges
  pub firsts : AreFirsts vertices edges n
  pub nexts : AreNexts edges n

-- what holds of the rows of every graph
pub record IsStored (vertices : List VertexRow) (edges : List EdgeRow) : Type 0 where
  pub arena : IsArena (arena_in vertices edges)
  pub linked : AreLinked vertices edges (length edges)

-- how many edges stand before the end of a link
abbrev pub bound : Option EdgeId → ℕ
bound None = 0
bound (Some id) = id.number + 1

-- the edges of a list from a link on, the newest first
abbrev pub edges_from : Bool → VertexId → List EdgeRow → Option EdgeId → List (VertexId × EdgeKind)
edges_from entering v edges next = reverse (edges_at entering v (take (bound next) (arrows_in edges)))

-- an edge of a list is named, or none
abbrev pub IsNamed : Bool → VertexId → List EdgeRow → Option EdgeId → Type 0
IsNamed entering v edges None = ⊤
IsNamed entering v edges (Some id) = (row : EdgeRow) × (slice_get edges id.number ≡ Some row) × (meets entering v row.arrow ≡ true)

-- a list can be followed from a link on
pub record CanFollow (entering : Bool) (v : VertexId) (edges : List EdgeRow) (next : Option EdgeId) : Type 0 where
  pub nexts : AreNexts edges (length edges)
  pub named : IsNamed entering v edges next
