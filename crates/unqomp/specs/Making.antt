-- A circuit graph in the making.
use Rattle.std.specs.Prelude.{◌≡◌, ℕ, zero, suc, ◌+◌, ◌-◌, ◌<◌, ◌≤◌, true, cond, ◌&&◌, ltb, List, [], ◌∷◌, ◌++◌, map, reverse, length, take, drop, get_or, slice_get, Option, Some, None, IsSomeAnd, Contains, ◌↔◌}
use Rattle.flat_core.specs.declared.step.Step.{Step}
use Rattle.flat_core.specs.declared.step.Step.TheVariants.{X, H, P, M}
use Rattle.flat_core.specs.declared.step.WireId.{WireId}
use Rattle.flat_core.specs.declared.step.StepId.{StepId}
use Rattle.flat_core.specs.Form.{FlatForm}
use Rattle.flat_core.specs.Ends.{dropped, freed, undone}
use Rattle.graph_core.specs.declared.vertex.Vertex.{Vertex}
use Rattle.graph_core.specs.declared.vertex.Vertex.TheVariants.{Forward, Reverse, Free}
use Rattle.graph_core.specs.declared.vertex.EdgeKind.{EdgeKind}
use Rattle.graph_core.specs.declared.vertex.EdgeKind.TheVariants.{Target, Control, Availability}
use Rattle.graph_core.specs.declared.graph.VertexId.{VertexId}
use Rattle.graph_core.specs.declared.graph.Arrow.{Arrow}
use Rattle.graph_core.specs.Arena.{Arena, IsVertexOf, AreVerticesOf, availability, use_arrows}
use Rattle.graph_core.specs.Circuit.{IsVertex, steps_on_from, chain}
use Rattle.unqomp.specs.GraphOf.{HasVertices, HasEdges}

abbrev pub vertex_id : ℕ → VertexId
vertex_id n = record { number = n }

-- the wire that a step changes
abbrev pub target_of : Step → Option WireId
target_of (X target first second) = Some target
target_of (H target control) = Some target
target_of (P eighths control) = None
target_of (M wire number) = None

-- the parts of the chain of a wire: of the first n steps, of the undoing down to step n, and of the freeing of the first n wires
abbrev pub forth : FlatForm → ℕ → WireId → List Vertex
forth f n w = map Forward (steps_on_from 0 (take n f.steps) w)

abbrev pub back : FlatForm → ℕ → WireId → List Vertex
back f n w = cond (dropped f w) (map Reverse (reverse (steps_on_from n (drop n f.steps) w))) []

abbrev pub last : FlatForm → ℕ → WireId → List Vertex
last f n w = cond (freed f w && ltb w.number n) (Free w ∷ []) []

-- the vertices that are there after the first n steps, after the undoing down to step n, and after the freeing of the first n wires
abbrev pub IsForth : FlatForm → ℕ → Vertex → Type 0
IsForth f n (Forward s) = s.number < n
IsForth f n (Reverse s) = ⊥
IsForth f n (Free w) = ⊥

abbrev pub IsBack : FlatForm → ℕ → Vertex → Type 0
IsBack f n (Forward s) = s.number < length f.steps
IsBack f n (Reverse s) = (n ≤ s.number) × ((s.number < length f.steps) × (undone f s ≡ true))
IsBack f n (Free w) = ⊥

abbrev pub IsLast : FlatForm → ℕ → Vertex → Type 0
IsLast f n (Forward s) = s.number < length f.steps
IsLast f n (Reverse s) = (s.number < length f.steps) × (undone f s ≡ true)
IsLast f n (Free w) = (w.number < n) × (freed f w ≡ true)

-- the ids on a wire's chain
abbrev pub ids_on : List (List VertexId) → WireId → List VertexId
ids_on chains w = get_or chains w.number []

-- the Target edges along the chains of all wires
abbrev pub IsAlong : (WireId → List Vertex) → EdgeKind → Vertex → Vertex → Type 0
IsAlong on Target u v = (w : WireId) × (i : ℕ) × (slice_get (on w) i ≡ Some u) × (slice_get (on w) (suc i) ≡ Some v)
IsAlong on Control u v = ⊥
IsAlong on Availability u v = ⊥

-- each vertex stands at one place of one chain at most
abbrev pub StandsOnce : (WireId → List Vertex) → Type 0
StandsOnce on = (w x : WireId) (i j : ℕ) (v : Vertex) → slice_get (on w) i ≡ Some v → slice_get (on x) j ≡ Some v → (w ≡ x) × (i ≡ j)

-- an arena with the Target edges of its chains: which vertices it has, and which stand on the chain of each wire
pub record IsStage (f : FlatForm) (g : Arena) (chains : List (List VertexId)) (forwards most : ℕ) (IsOne : Vertex → Type 0) (on : WireId → List Vertex) : Type 0 where
  pub vertices : HasVertices g IsOne
  pub numbered : (s : StepId) → s.number < forwards → IsVertexOf g (vertex_id s.number) (Forward s)
  pub few : length g.vertices ≤ most
  pub few_edges : length g.arrows ≤ length g.vertices
  pub as_many : length chains ≡ length f.wires
  pub each : (w : WireId) → w.number < length f.wires → AreVerticesOf g (ids_on chains w) (on w)
  pub edges : HasEdges g (IsAlong on)
  pub on_is_there : (w : WireId) (i : ℕ) (v : Vertex) → slice_get (on w) i ≡ Some v → IsOne v
  pub once : StandsOnce on

-- after the first n steps, whose vertices have the ids from 0 on
pub record IsForthStage (f : FlatForm) (g : Arena) (chains : List (List VertexId)) (n : ℕ) : Type 0 where
  pub stage : IsStage f g chains n n (IsForth f n) (forth f n)
  pub exactly : length g.vertices ≡ n

-- after the undoing down to step n
abbrev pub IsBackStage : FlatForm → Arena → List (List VertexId) → ℕ → Type 0
IsBackStage f g chains n = IsStage f g chains (length f.steps) (length f.steps + (length f.steps - n)) (IsBack f n) (λ w. forth f (length f.steps) w ++ back f n w)

-- after the freeing of the first n wires
abbrev pub IsLastStage : FlatForm → Arena → List (List VertexId) → ℕ → Type 0
IsLastStage f g chains n = IsStage f g chains (length f.steps) (length f.steps + length f.steps + n) (IsLast f n) (λ w. forth f (length f.steps) w ++ (back f 0 w ++ last f n w))

-- an arena of these vertices without edges
abbrev pub bare : List Vertex → Arena
bare vertices = record { vertices = vertices; arrows = [] }

-- all vertices of the circuit graph are there, and the ids on all chains
pub record IsWhole (f : FlatForm) (vertices : List Vertex) (chains : List (List VertexId)) : Type 0 where
  pub vertices_are : (v : Vertex) → Contains vertices v ↔ IsVertex f v
  pub numbered : (s : StepId) → s.number < length f.steps → IsVertexOf (bare vertices) (vertex_id s.number) (Forward s)
  pub as_many : length chains ≡ length f.wires
  pub each : (w : WireId) → w.number < length f.wires → AreVerticesOf (bare vertices) (ids_on chains w) (chain f w)

-- an id is there and is that of a vertex, wherever all vertices and chains are
abbrev pub IsIdOf : FlatForm → List (List VertexId) → Option VertexId → Vertex → Type 0
IsIdOf f chains id v = (vertices : List Vertex) → IsWhole f vertices chains → IsSomeAnd id (λ i. IsVertexOf (bare vertices) i v)

-- the edges of a user at a slot of a chain: from the vertex just before the slot, and to the vertex at it
abbrev pub next_arrows : VertexId → Option VertexId → List Arrow
next_arrows user None = []
next_arrows user (Some next) = availability user next ∷ []

abbrev pub held_arrows : Option VertexId → VertexId → Option VertexId → List Arrow
held_arrows None user next = []
held_arrows (Some holder) user next = use_arrows holder user next

abbrev pub slot_arrows : List VertexId → VertexId → ℕ → List Arrow
slot_arrows ids user zero = next_arrows user (slice_get ids 0)
slot_arrows ids user (suc j) = held_arrows (slice_get ids j) user (slice_get ids (suc j))
