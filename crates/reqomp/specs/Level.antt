-- The moves of a level, where some wires are marked to be recomputed.
use Rattle.std.specs.Prelude.{◌≡◌, ℕ, ◌<◌, ◌≤◌, true, List, [], ◌∷◌, ◌++◌, map, reverse, length, slice_get, Some, Contains}
use Rattle.flat_core.specs.declared.step.WireId.{WireId}
use Rattle.flat_core.specs.declared.step.StepId.{StepId}
use Rattle.flat_core.specs.Form.{FlatForm}
use Rattle.flat_core.specs.Label.{changes, used, step_at, label_before}
use Rattle.flat_core.specs.Sound.{IsFlat}
use Rattle.graph_core.specs.declared.vertex.Vertex.{Vertex}
use Rattle.graph_core.specs.declared.vertex.EdgeKind.{EdgeKind}
use Rattle.graph_core.specs.Digraph.{Digraph, IsAcyclic}
use Rattle.graph_core.specs.Circuit.{IsVertex, chain, Uses, Edge, circuit_graph}
use Rattle.topo_order.specs.ReadyOrder.{IsReadyOrder}
use Rattle.move_plan.specs.declared.moves.Move.{Move}
use Rattle.move_plan.specs.declared.moves.Move.TheVariants.{Up, Down}
use Rattle.move_plan.specs.Progress.{IsPlan}
use Rattle.move_plan.specs.AsMoves.{move_of, moves_of}
use Rattle.reqomp.specs.Simple.{marked_at}

-- step s changes wire p and uses wire w
pub record Passes (f : FlatForm) (s : StepId) (p w : WireId) : Type 0 where
  pub step : s.number < length f.steps
  pub changing : changes p (step_at f s) ≡ true
  pub uses : Contains (used (step_at f s)) w

-- a vertex rests on a marked wire: it uses it, or a marked wire that it rests on has a step that uses it
pub data RestsOn (f : FlatForm) (marked : List WireId) (v : Vertex) : WireId → Type 0 where
  directly : {w : WireId} {i : ℕ} → Uses f v w i → Contains marked w → RestsOn f marked v w
  further : {p w : WireId} {s : StepId} → RestsOn f marked v p → Passes f s p w → Contains marked w → RestsOn f marked v w

-- a vertex rests on a label of an unmarked wire: its own step, or a step of a marked wire that it rests on, uses that label
pub data Needs (f : FlatForm) (marked : List WireId) : Vertex → WireId → ℕ → Type 0 where
  itself : {v : Vertex} {w : WireId} {i : ℕ} → Uses f v w i → ¬ Contains marked w → Needs f marked v w i
  below : {v : Vertex} {p w : WireId} {s : StepId} → RestsOn f marked v p → Passes f s p w → ¬ Contains marked w → Needs f marked v w (label_before f s w)

-- the vertices but those of marked wires
pub record IsKept (f : FlatForm) (marked : List WireId) (v : Vertex) : Type 0 where
  pub vertex : IsVertex f v
  pub unmarked : (w : WireId) → Contains marked w → ¬ Contains (chain f w) v

pub record HasKeptEdge (f : FlatForm) (marked : List WireId) (u v : Vertex) : Type 0 where
  pub from : IsKept f marked u
  pub to : IsKept f marked v
  pub kind : EdgeKind
  pub edge : Edge f (Needs f marked) kind u v

abbrev pub level_graph : FlatForm → List WireId → Digraph
level_graph f marked = record { IsVertex = IsKept f marked; HasEdge = HasKeptEdge f marked }

-- the steps of the marked wires that a vertex rests on, in step order
pub record IsRedone (f : FlatForm) (marked : List WireId) (v : Vertex) (steps : List StepId) : Type 0 where
  pub only : (s : StepId) → Contains steps s → (w : WireId) × RestsOn f marked v w × (s.number < length f.steps) × (changes w (step_at f s) ≡ true)
  pub all : (s : StepId) (w : WireId) → RestsOn f marked v w → s.number < length f.steps → changes w (step_at f s) ≡ true → Contains steps s
  pub ascending : (i j : ℕ) (a b : StepId) → i < j → slice_get steps i ≡ Some a → slice_get steps j ≡ Some b → a.number < b.number

-- the moves of the vertices in turn: the steps below done, the own move, and the steps below undone
pub data AreMoves (f : FlatForm) (marked : List WireId) : List Vertex → List Move → Type 0 where
  none : AreMoves f marked [] []
  more : {v : Vertex} {steps : List StepId} {rest : List Vertex} {moves : List Move} → IsRedone f marked v steps → AreMoves f marked rest moves → AreMoves f marked (v ∷ rest) (map Up steps ++ (move_of f v ∷ (map Down (reverse steps) ++ moves)))

-- the levels are numbered from 0 to this one
abbrev pub last_level : ℕ
last_level = 16

-- level k is not missing, and these are its moves
pub record IsLevel (f : FlatForm) (k : ℕ) (moves : List Move) : Type 0 where
  pub level : k ≤ last_level
  pub order : List Vertex
  pub ready : IsReadyOrder (level_graph f (marked_at f k)) order
  pub groups : AreMoves f (marked_at f k) order moves
  pub valid : IsPlan f moves

-- level 0 has the moves of the circuit graph's ready order, at most 500,000 of them, and is there exactly where that
-- graph has no cycle
pub record IsLevelZero (f : FlatForm) : Type 0 where
  pub has : (order : List Vertex) → IsReadyOrder (circuit_graph f) order → IsLevel f 0 (moves_of f order)
  pub only : (moves : List Move) → IsLevel f 0 moves → (order : List Vertex) × IsReadyOrder (circuit_graph f) order × (moves ≡ moves_of f order)
  pub there : IsAcyclic (circuit_graph f) → (moves : List Move) × IsLevel f 0 moves
  pub acyclic : (moves : List Move) → IsLevel f 0 moves → IsAcyclic (circuit_graph f)
  pub few : (moves : List Move) → IsLevel f 0 moves → length moves ≤ 500000

abbrev pub LevelZero : Type 0
LevelZero = (f : FlatForm) → IsFlat f → IsLevelZero f
