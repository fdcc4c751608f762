-- The edges of a level's graph, taken from the circuit graph: those of its vertices, and those of the steps done again for them.
use Rattle.std.specs.Prelude.{◌≡◌, ◌<◌, ◌↔◌, ℕ, true, List, length}
use Rattle.flat_core.specs.declared.step.WireId.{WireId}
use Rattle.flat_core.specs.declared.step.StepId.{StepId}
use Rattle.flat_core.specs.Form.{FlatForm}
use Rattle.flat_core.specs.Label.{changes, step_at}
use Rattle.flat_core.specs.Ends.{KeepsEnds}
use Rattle.graph_core.specs.declared.vertex.Vertex.{Vertex}
use Rattle.graph_core.specs.declared.vertex.Vertex.TheVariants.{Forward, Reverse, Free}
use Rattle.graph_core.specs.declared.vertex.EdgeKind.{EdgeKind}
use Rattle.graph_core.specs.declared.vertex.EdgeKind.TheVariants.{Control, Availability}
use Rattle.graph_core.specs.Circuit.{Uses, Edge}
use Rattle.reqomp.specs.Simple.{marked_at}
use Rattle.reqomp.specs.Level.{RestsOn, IsKept}
use Rattle.reqomp.specs.LevelGraph.{IsKeptEdge}

-- a step is done again for a vertex: it changes a marked wire that the vertex rests on
pub record IsAgain (f : FlatForm) (marked : List WireId) (v : Vertex) (t : StepId) : Type 0 where
  pub wire : WireId
  pub rests : RestsOn f marked v wire
  pub step : t.number < length f.steps
  pub changing : changes wire (step_at f t) ≡ true

-- another step, done where the vertex does its step, and undone where it undoes it
abbrev pub alike : Vertex → StepId → Vertex
alike (Forward s) t = Forward t
alike (Reverse s) t = Reverse t
alike (Free w) t = Free w

-- an edge of the circuit graph, or one at a step that is done again
pub data TakenEdge (f : FlatForm) (marked : List WireId) : EdgeKind → Vertex → Vertex → Type 0 where
  own_edge : {kind : EdgeKind} {u v : Vertex} → Edge f (Uses f) kind u v → TakenEdge f marked kind u v
  before_again : {u v : Vertex} {t : StepId} → IsAgain f marked v t → Edge f (Uses f) Control u (alike v t) → TakenEdge f marked Control u v
  after_again : {u v : Vertex} {t : StepId} → IsAgain f marked u t → Edge f (Uses f) Availability (alike u t) v → TakenEdge f marked Availability u v

-- between kept vertices these are the edges of each level's graph
abbrev pub ContractedEdges : Type 0
ContractedEdges = (f : FlatForm) (k : ℕ) → KeepsEnds f → (kind : EdgeKind) (u v : Vertex) → IsKept f (marked_at f k) u → IsKept f (marked_at f k) v
    → IsKeptEdge f (marked_at f k) kind u v ↔ TakenEdge f (marked_at f k) kind u v
