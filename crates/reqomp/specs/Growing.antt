-- The graph of a level in the making: which of its edges are there.
use Rattle.std.specs.Prelude.{◌≡◌, ◌↔◌, ℕ, ◌<◌, Bool, true, false, List, length, get_or, slice_get, Option, Some, None, Contains, ⊤}
use Rattle.flat_core.specs.declared.step.WireId.{WireId}
use Rattle.flat_core.specs.declared.step.StepId.{StepId}
use Rattle.flat_core.specs.Form.{FlatForm}
use Rattle.graph_core.specs.declared.vertex.Vertex.{Vertex}
use Rattle.graph_core.specs.declared.vertex.Vertex.TheVariants.{Forward, Reverse}
use Rattle.graph_core.specs.declared.vertex.EdgeKind.{EdgeKind}
use Rattle.graph_core.specs.declared.vertex.EdgeKind.TheVariants.{Control, Availability}
use Rattle.graph_core.specs.declared.graph.VertexId.{VertexId}
use Rattle.graph_core.specs.declared.graph.Arrow.{Arrow}
use Rattle.graph_core.specs.Arena.{Arena, IsVertexOf}
use Rattle.graph_core.specs.Circuit.{Uses, Edge}
use Rattle.flat_core.specs.Sound.{IsFlat}
use Rattle.unqomp.specs.GraphOf.{HasArrowOf, IsGraphOf}
use Rattle.reqomp.specs.declared.groups.Group.{Group}
use Rattle.reqomp.specs.declared.places.Places.{Places}
use Rattle.reqomp.specs.declared.near.Near.{Near}
use Rattle.reqomp.specs.declared.groups.Groups.{Groups}
use Rattle.reqomp.specs.Simple.{marked_at}
use Rattle.reqomp.specs.LevelGraph.{IsLevelGraphOf}
use Rattle.reqomp.specs.Contracted.{alike, TakenEdge}
use Rattle.reqomp.specs.Grouping.{vertices_of, AreGroups}

-- each vertex once
abbrev pub AreOnce : List Vertex → Type 0
AreOnce vertices = (i j : ℕ) (v : Vertex) → slice_get vertices i ≡ Some v → slice_get vertices j ≡ Some v → i ≡ j

-- the ids in the level's graph of the vertices of the circuit graph
pub record IsIdTable (circuit level : Arena) (ids : List (Option VertexId)) : Type 0 where
  pub as_many : length ids ≡ length circuit.vertices
  pub only : (id x : VertexId) → get_or ids id.number None ≡ Some x → (v : Vertex) × IsVertexOf circuit id v × IsVertexOf level x v
  pub all : (id x : VertexId) (v : Vertex) → IsVertexOf circuit id v → IsVertexOf level x v → get_or ids id.number None ≡ Some x

-- some groups stand at the ids of their vertices, each vertex once
pub record ArePlaced (circuit : Arena) (groups : List Group) : Type 0 where
  pub at : (i : ℕ) (group : Group) → slice_get groups i ≡ Some group → IsVertexOf circuit group.at group.vertex
  pub once : AreOnce (vertices_of groups)

-- the ids in the circuit graph of the steps, done and undone, as far as its first n vertices tell them
pub record ArePlaces (f : FlatForm) (circuit : Arena) (n : ℕ) (places : Places) : Type 0 where
  pub forward_rows : length places.forward.items ≡ length f.steps
  pub reverse_rows : length places.reverse.items ≡ length f.steps
  pub forward : (s : StepId) (id : VertexId) → id.number < n → s.number < length f.steps → IsVertexOf circuit id (Forward s) → get_or places.forward.items s.number id ≡ id
  pub reverse : (s : StepId) (id : VertexId) → id.number < n → s.number < length f.steps → IsVertexOf circuit id (Reverse s) → get_or places.reverse.items s.number id ≡ id

-- an edge, by the ids of its ends
abbrev pub arrow_of : VertexId → VertexId → EdgeKind → Arrow
arrow_of from to kind = record { from = from; to = to; kind = kind }

-- a graph has all edges of another one on the same vertices
pub record HasGrown (g h : Arena) : Type 0 where
  pub vertices : h.vertices ≡ g.vertices
  pub kept : (e : Arrow) → Contains g.arrows e → Contains h.arrows e

-- each edge of a graph is one of the level's graph
abbrev pub IsSoundFor : FlatForm → List WireId → Arena → Type 0
IsSoundFor f marked g = (e : Arrow) (u v : Vertex) → Contains g.arrows e → IsVertexOf g e.from u → IsVertexOf g e.to v → TakenEdge f marked e.kind u v

-- whether edges of a kind are copied: all of them, or the Control edges
abbrev pub IsCopied : Bool → EdgeKind → Type 0
IsCopied true kind = ⊤
IsCopied false kind = kind ≡ Control

-- the edges that enter a vertex of the circuit graph are those of a vertex of the level's graph
abbrev pub MayCopyBefore : FlatForm → List WireId → Bool → Vertex → Vertex → Type 0
MayCopyBefore f marked all x v = (kind : EdgeKind) (u : Vertex) → IsCopied all kind → Edge f (Uses f) kind u x → TakenEdge f marked kind u v

abbrev pub MayCopyAfter : FlatForm → List WireId → Vertex → Vertex → Type 0
MayCopyAfter f marked x u = (v : Vertex) → Edge f (Uses f) Availability x v → TakenEdge f marked Availability u v

-- the graph has the edges that enter a vertex of the circuit graph, at a vertex of the level's graph
abbrev pub HasCopiedBefore : FlatForm → Bool → Vertex → Vertex → Arena → Type 0
HasCopiedBefore f all x v g = (kind : EdgeKind) (u : Vertex) → IsCopied all kind → Contains g.vertices u → Edge f (Uses f) kind u x → HasArrowOf g kind u v

abbrev pub HasCopiedAfter : FlatForm → Vertex → Vertex → Arena → Type 0
HasCopiedAfter f x u g = (v : Vertex) → Contains g.vertices v → Edge f (Uses f) Availability x v → HasArrowOf g Availability u v

-- the edges of a kind at a vertex of the level's graph that steps which are done again give: Control edges that enter it, and Availability
-- edges that leave it
abbrev pub arrow_again : Bool → VertexId → VertexId → Arrow
arrow_again true other own = arrow_of other own Control
arrow_again false other own = arrow_of own other Availability

abbrev pub TakenAgain : FlatForm → List WireId → Bool → Vertex → Vertex → Type 0
TakenAgain f marked true other own = TakenEdge f marked Control other own
TakenAgain f marked false other own = TakenEdge f marked Availability own other

-- the graph has such an edge for each of some vertices of the circuit graph that it has
abbrev pub HasEnds : List (Option VertexId) → List VertexId → VertexId → Bool → Arena → Type 0
HasEnds ids ends own entering g = (x y : VertexId) → Contains ends x → get_or ids x.number None ≡ Some y → Contains g.arrows (arrow_again entering y own)

-- the vertices whose Control edges enter a vertex of the circuit graph, and those that its Availability edges lead to
pub record IsNear (circuit : Arena) (at : VertexId) (near : Near) : Type 0 where
  pub holders : (x : VertexId) → Contains near.holders.items x ↔ Contains circuit.arrows (arrow_of x at Control)
  pub changers : (x : VertexId) → Contains near.changers.items x ↔ Contains circuit.arrows (arrow_of at x Availability)

-- the same for each vertex of the circuit graph
pub record AreNear (circuit : Arena) (near : List Near) : Type 0 where
  pub each_vertex : length near ≡ length circuit.vertices
  pub at : (at : VertexId) (row : Near) → slice_get near at.number ≡ Some row → IsNear circuit at row

-- the graph has all edges of a group: those that enter its vertex, and those of the steps done again
pub record HasGroupEdges (f : FlatForm) (group : Group) (g : Arena) : Type 0 where
  pub own : HasCopiedBefore f true group.vertex group.vertex g
  pub before : (t : StepId) → Contains group.steps.items t → HasCopiedBefore f false (alike group.vertex t) group.vertex g
  pub after : (t : StepId) → Contains group.steps.items t → HasCopiedAfter f (alike group.vertex t) group.vertex g

-- a graph with the vertices of all groups, with edges of the level's graph alone and with all edges of each group, is the level's graph
abbrev pub GroupsGiveLevelGraph : Type 0
GroupsGiveLevelGraph = (f : FlatForm) (k : ℕ) → IsFlat f → (circuit : Arena) → IsGraphOf f circuit → (groups : Groups) → AreGroups f (marked_at f k) circuit (length circuit.vertices) groups
    → (g : Arena) → g.vertices ≡ vertices_of groups.items.items → IsSoundFor f (marked_at f k) g → ((i : ℕ) (group : Group) → slice_get groups.items.items i ≡ Some group → HasGroupEdges f group g)
    → IsLevelGraphOf f (marked_at f k) g
