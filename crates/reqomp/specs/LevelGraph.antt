-- The graph of a level as an arena has it: its edges by their kinds, and by the places of users on chains.
use Rattle.std.specs.Prelude.{◌≡◌, ℕ, suc, ◌↔◌, Bool, false, List, slice_get, Some, Contains}
use Rattle.flat_core.specs.declared.step.WireId.{WireId}
use Rattle.flat_core.specs.Form.{FlatForm}
use Rattle.flat_core.specs.Label.{changes, same_wire, step_at}
use Rattle.flat_core.specs.Ends.{KeepsEnds}
use Rattle.graph_core.specs.declared.vertex.Vertex.{Vertex}
use Rattle.graph_core.specs.declared.vertex.Vertex.TheVariants.{Forward, Reverse, Free}
use Rattle.graph_core.specs.declared.vertex.EdgeKind.{EdgeKind}
use Rattle.graph_core.specs.declared.vertex.EdgeKind.TheVariants.{Target, Control, Availability}
use Rattle.graph_core.specs.Arena.{Arena, digraph_of}
use Rattle.graph_core.specs.Digraph.{IsSame}
use Rattle.graph_core.specs.Circuit.{IsVertex, chain, Edge}
use Rattle.graph_core.specs.Slots.{slot}
use Rattle.unqomp.specs.GraphOf.{HasVertices, HasEdges}
use Rattle.reqomp.specs.Level.{Needs, IsKept, level_graph}

-- an edge of a kind between two kept vertices
pub record IsKeptEdge (f : FlatForm) (marked : List WireId) (kind : EdgeKind) (u v : Vertex) : Type 0 where
  pub from : IsKept f marked u
  pub to : IsKept f marked v
  pub edge : Edge f (Needs f marked) kind u v

-- an arena has exactly the vertices and the edges of a level's graph
pub record IsLevelGraphOf (f : FlatForm) (marked : List WireId) (g : Arena) : Type 0 where
  pub vertices : HasVertices g (IsKept f marked)
  pub edges : HasEdges g (IsKeptEdge f marked)

-- such an arena is the level's graph
abbrev pub LevelGraphIsSame : Type 0
LevelGraphIsSame = (f : FlatForm) (marked : List WireId) (g : Arena) → IsLevelGraphOf f marked g → IsSame (digraph_of g) (level_graph f marked)

-- the edges once more, along the chains of unmarked wires and by the places at which kept users stand on them
pub data KeptSlotEdge (f : FlatForm) (marked : List WireId) : EdgeKind → Vertex → Vertex → Type 0 where
  in_kept_chain : (w : WireId) (j : ℕ) {a b : Vertex} → ¬ Contains marked w → slice_get (chain f w) j ≡ Some a → slice_get (chain f w) (suc j) ≡ Some b → KeptSlotEdge f marked Target a b
  from_kept_before : {u h : Vertex} {w : WireId} {i : ℕ} → IsKept f marked u → Needs f marked u w i → (j : ℕ) → slot f u w i ≡ suc j → slice_get (chain f w) j ≡ Some h → KeptSlotEdge f marked Control h u
  to_kept_after : {u v : Vertex} {w : WireId} {i : ℕ} → IsKept f marked u → Needs f marked u w i → slice_get (chain f w) (slot f u w i) ≡ Some v → KeptSlotEdge f marked Availability u v

-- whether a vertex stands on the chain of a wire
abbrev pub stands_on : FlatForm → Vertex → WireId → Bool
stands_on f (Forward s) w = changes w (step_at f s)
stands_on f (Reverse s) w = changes w (step_at f s)
stands_on f (Free x) w = same_wire x w

-- what stands on no marked wire is kept, with all that an unmarked wire has on its chain, and both forms have the same edges
pub record HasKeptSlots (f : FlatForm) (marked : List WireId) : Type 0 where
  pub told : (v : Vertex) → IsKept f marked v ↔ (IsVertex f v × ((w : WireId) → Contains marked w → stands_on f v w ≡ false))
  pub kept : (w : WireId) (j : ℕ) (v : Vertex) → ¬ Contains marked w → slice_get (chain f w) j ≡ Some v → IsKept f marked v
  pub edges : (kind : EdgeKind) (a b : Vertex) → IsKeptEdge f marked kind a b ↔ KeptSlotEdge f marked kind a b

abbrev pub KeptEdgesBySlots : Type 0
KeptEdgesBySlots = (f : FlatForm) (marked : List WireId) → KeepsEnds f → HasKeptSlots f marked
