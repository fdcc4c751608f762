-- What a search through the levels may rest on: orders of a graph's arena, and when a level is there, what it has and how long it is.
use Rattle.std.specs.Prelude.{◌≡◌, ℕ, ◌+◌, ◌*◌, ◌/◌, ◌≤◌, ◌↔◌, List, [], ◌∷◌, length, slice_get, Some, Contains}
use Rattle.flat_core.specs.declared.step.WireId.{WireId}
use Rattle.flat_core.specs.declared.step.StepId.{StepId}
use Rattle.flat_core.specs.Form.{FlatForm}
use Rattle.graph_core.specs.declared.vertex.Vertex.{Vertex}
use Rattle.graph_core.specs.declared.graph.VertexId.{VertexId}
use Rattle.graph_core.specs.Arena.{Arena, AreVerticesOf, digraph_of}
use Rattle.graph_core.specs.Digraph.{Digraph, IsLinearOrder, IsCycle, IsAcyclic, IsSame}
use Rattle.graph_core.specs.Circuit.{circuit_graph}
use Rattle.topo_order.specs.ReadyOrder.{IsReadyOrder}
use Rattle.topo_order.specs.GivenCycle.{IsGivenCycle}
use Rattle.topo_order.specs.OrderOf.{IsOrderOf}
use Rattle.unqomp.specs.GraphOf.{IsGraphOf}
use Rattle.move_plan.specs.declared.moves.Move.{Move}
use Rattle.move_plan.specs.Progress.{IsPlan}
use Rattle.reqomp.specs.Simple.{simple_wires, marked_at}
use Rattle.reqomp.specs.Level.{IsKept, level_graph, IsRedone, AreMoves, last_level, IsLevel}

-- some ids of an arena are those of the ready order of a graph
pub record OrdersGraph (g : Arena) (d : Digraph) (ids : List VertexId) : Type 0 where
  pub order : List Vertex
  pub ids_of : AreVerticesOf g ids order
  pub ready : IsReadyOrder d order

-- the orders and cycles of an arena are those of a graph
pub record AnswersFor (g : Arena) (d : Digraph) : Type 0 where
  pub ids : (ids : List VertexId) → IsOrderOf g ids ↔ OrdersGraph g d ids
  pub ready : (order : List Vertex) → IsReadyOrder (digraph_of g) order ↔ IsReadyOrder d order
  pub linear : (order : List Vertex) → IsLinearOrder (digraph_of g) order ↔ IsLinearOrder d order
  pub acyclic : IsAcyclic (digraph_of g) ↔ IsAcyclic d
  pub given : (cycle : List Vertex) → IsGivenCycle (digraph_of g) cycle ↔ IsGivenCycle d cycle
  pub cycle : (cycle : List Vertex) → IsCycle (digraph_of g) cycle ↔ IsCycle d cycle

-- an arena of a flat form has the orders and cycles of its circuit graph
abbrev pub OrdersOfCircuit : Type 0
OrdersOfCircuit = (f : FlatForm) (g : Arena) → IsGraphOf f g → AnswersFor g (circuit_graph f)

-- an arena with the vertices and edges of a level's graph has its orders and cycles
abbrev pub OrdersOfLevel : Type 0
OrdersOfLevel = (f : FlatForm) (marked : List WireId) (g : Arena) → IsSame (digraph_of g) (level_graph f marked) → AnswersFor g (level_graph f marked)

-- what a level has is told by its definition: below each vertex one list of steps, and one list of moves
pub record HasOneList (f : FlatForm) : Type 0 where
  pub redone : (marked : List WireId) (v : Vertex) (steps others : List StepId) → IsRedone f marked v steps → IsRedone f marked v others → steps ≡ others
  pub groups : (marked : List WireId) (order : List Vertex) (moves others : List Move) → AreMoves f marked order moves → AreMoves f marked order others → moves ≡ others
  pub by_order : (k : ℕ) (order : List Vertex) (moves others : List Move) → IsReadyOrder (level_graph f (marked_at f k)) order → AreMoves f (marked_at f k) order moves → IsLevel f k others → others ≡ moves
  pub one : (k : ℕ) (moves others : List Move) → IsLevel f k moves → IsLevel f k others → moves ≡ others

abbrev pub LevelIsOneList : Type 0
LevelIsOneList = (f : FlatForm) → HasOneList f

-- a level is missing where its graph has a cycle, and where the moves of its order are not valid
pub record IsMissingWhere (f : FlatForm) (k : ℕ) : Type 0 where
  pub acyclic : (moves : List Move) → IsLevel f k moves → IsAcyclic (level_graph f (marked_at f k))
  pub by_cycle : (cycle : List Vertex) → IsCycle (level_graph f (marked_at f k)) cycle → (moves : List Move) → ¬ IsLevel f k moves
  pub by_moves : (order : List Vertex) (moves : List Move) → IsReadyOrder (level_graph f (marked_at f k)) order → AreMoves f (marked_at f k) order moves → ¬ IsPlan f moves → (others : List Move) → ¬ IsLevel f k others

abbrev pub NoOrderNoLevel : Type 0
NoOrderNoLevel = (f : FlatForm) (k : ℕ) → IsMissingWhere f k

-- how many moves some vertices give: each one its own, and two for each step that it does again
pub data GiveMoves (f : FlatForm) (marked : List WireId) : List Vertex → ℕ → Type 0 where
  no_moves : GiveMoves f marked [] 0
  more_moves : {v : Vertex} {steps : List StepId} {rest : List Vertex} {n : ℕ} → IsRedone f marked v steps → GiveMoves f marked rest n → GiveMoves f marked (v ∷ rest) (2 * length steps + 1 + n)

-- some kept vertices, each of them once
pub record AreSomeKept (f : FlatForm) (marked : List WireId) (vertices : List Vertex) : Type 0 where
  pub kept : (v : Vertex) → Contains vertices v → IsKept f marked v
  pub once : (i j : ℕ) (v : Vertex) → slice_get vertices i ≡ Some v → slice_get vertices j ≡ Some v → i ≡ j

-- all kept vertices, each of them once
pub record AreAllKept (f : FlatForm) (marked : List WireId) (vertices : List Vertex) : Type 0 where
  pub some : AreSomeKept f marked vertices
  pub all : (v : Vertex) → IsKept f marked v → Contains vertices v

-- the moves of a linear order are as many as its vertices give, in whichever order they are counted; some of the
-- vertices give no more, so that a level which is too long can be left before its graph is made
pub record HasLength (f : FlatForm) (marked : List WireId) (moves : List Move) : Type 0 where
  pub whole : (vertices : List Vertex) (n : ℕ) → AreAllKept f marked vertices → GiveMoves f marked vertices n → length moves ≡ n
  pub part : (vertices : List Vertex) (n : ℕ) → AreSomeKept f marked vertices → GiveMoves f marked vertices n → n ≤ length moves

pub record LengthIsCounted (f : FlatForm) : Type 0 where
  pub by_order : (marked : List WireId) (order : List Vertex) (moves : List Move) → IsLinearOrder (level_graph f marked) order → AreMoves f marked order moves → HasLength f marked moves
  pub of_level : (k : ℕ) (moves : List Move) → IsLevel f k moves → HasLength f (marked_at f k) moves

abbrev pub LevelLength : Type 0
LevelLength = (f : FlatForm) → LengthIsCounted f

-- levels with equally many marked wires are one level
pub record IsToldByMarks (f : FlatForm) : Type 0 where
  pub many : (k : ℕ) → k ≤ last_level → length (marked_at f k) ≡ (length (simple_wires f) * k + 15) / 16
  pub wires : (j k : ℕ) → length (marked_at f j) ≡ length (marked_at f k) → marked_at f j ≡ marked_at f k
  pub level : (j k : ℕ) → k ≤ last_level → length (marked_at f j) ≡ length (marked_at f k) → (moves : List Move) → IsLevel f j moves → IsLevel f k moves

abbrev pub EquallyMarked : Type 0
EquallyMarked = (f : FlatForm) → IsToldByMarks f
