-- The first level that fits a budget, and what may be said of a level on the way to it.
use Rattle.std.specs.Prelude.{◌≡◌, ℕ, suc, ◌<◌, ◌≤◌, List, length, Option, Some, None}
use Rattle.flat_core.specs.Form.{FlatForm}
use Rattle.graph_core.specs.declared.vertex.Vertex.{Vertex}
use Rattle.graph_core.specs.Digraph.{IsCycle, IsAcyclic}
use Rattle.graph_core.specs.Circuit.{circuit_graph}
use Rattle.flat_core.specs.Sound.{IsFlat}
use Rattle.topo_order.specs.ReadyOrder.{IsReadyOrder}
use Rattle.move_plan.specs.declared.moves.Move.{Move}
use Rattle.move_plan.specs.Progress.{IsPlan}
use Rattle.move_plan.specs.Live.{width}
use Rattle.reqomp.specs.Simple.{marked_at}
use Rattle.reqomp.specs.Level.{level_graph, AreMoves, last_level, IsLevel}
use Rattle.reqomp.specs.Planning.{GiveMoves, AreSomeKept}

-- a level may have so many moves
abbrev pub most_moves : ℕ
most_moves = 600000

-- moves fit a budget of qubits
pub record Fits (f : FlatForm) (budget : ℕ) (moves : List Move) : Type 0 where
  pub few : length moves ≤ most_moves
  pub narrow : width f moves ≤ budget

-- no level below level k fits
abbrev pub NoneFitsBelow : FlatForm → ℕ → ℕ → Type 0
NoneFitsBelow f budget k = (j : ℕ) (moves : List Move) → j < k → IsLevel f j moves → ¬ Fits f budget moves

-- level k is the first that fits, and these are its moves
pub record IsFirstFit (f : FlatForm) (budget k : ℕ) (moves : List Move) : Type 0 where
  pub level : IsLevel f k moves
  pub fits : Fits f budget moves
  pub first : NoneFitsBelow f budget k

-- a level that is there and not too long, by its width
pub record HasWidth (f : FlatForm) (k wide : ℕ) : Type 0 where
  pub moves : List Move
  pub level : IsLevel f k moves
  pub few : length moves ≤ most_moves
  pub is : wide ≡ width f moves

-- the width of level k, where it is there and not too long
abbrev pub IsWidthOf : FlatForm → ℕ → Option ℕ → Type 0
IsWidthOf f k None = (moves : List Move) → IsLevel f k moves → ¬ (length moves ≤ most_moves)
IsWidthOf f k (Some wide) = HasWidth f k wide

-- the least width of the levels below level k, of those that are there and not too long
pub record IsLeastWidth (f : FlatForm) (k wide : ℕ) : Type 0 where
  pub at : ℕ
  pub below : at < k
  pub has : HasWidth f at wide
  pub least : (j other : ℕ) → j < k → HasWidth f j other → wide ≤ other

abbrev pub IsLeastBelow : FlatForm → ℕ → Option ℕ → Type 0
IsLeastBelow f k None = (j wide : ℕ) → j < k → ¬ HasWidth f j wide
IsLeastBelow f k (Some wide) = IsLeastWidth f k wide

-- how the width of a level is found
pub record WidthIsFound (f : FlatForm) (k : ℕ) : Type 0 where
  pub one : (wide other : Option ℕ) → IsWidthOf f k wide → IsWidthOf f k other → wide ≡ other
  pub by_cycle : (cycle : List Vertex) → IsCycle (level_graph f (marked_at f k)) cycle → IsWidthOf f k None
  pub by_length : (vertices : List Vertex) (n : ℕ) → AreSomeKept f (marked_at f k) vertices → GiveMoves f (marked_at f k) vertices n → most_moves < n → IsWidthOf f k None
  pub not_valid : (order : List Vertex) (moves : List Move) → IsReadyOrder (level_graph f (marked_at f k)) order → AreMoves f (marked_at f k) order moves → ¬ IsPlan f moves → IsWidthOf f k None
  pub valid : (order : List Vertex) (moves : List Move) → k ≤ last_level → IsReadyOrder (level_graph f (marked_at f k)) order → AreMoves f (marked_at f k) order moves → IsPlan f moves → length moves ≤ most_moves → IsWidthOf f k (Some (width f moves))
  pub by_other : (j : ℕ) (wide : Option ℕ) → j ≤ last_level → k ≤ last_level → length (marked_at f j) ≡ length (marked_at f k) → IsWidthOf f j wide → IsWidthOf f k wide

abbrev pub LevelWidth : Type 0
LevelWidth = (f : FlatForm) (k : ℕ) → WidthIsFound f k

-- how the levels are gone through, from level 0 on
pub record LevelsInTurn (f : FlatForm) (budget : ℕ) : Type 0 where
  pub start : NoneFitsBelow f budget 0
  pub missing : (k : ℕ) → NoneFitsBelow f budget k → IsWidthOf f k None → NoneFitsBelow f budget (suc k)
  pub wider : (k wide : ℕ) → NoneFitsBelow f budget k → IsWidthOf f k (Some wide) → budget < wide → NoneFitsBelow f budget (suc k)
  pub fitting : (k : ℕ) (moves : List Move) → NoneFitsBelow f budget k → IsLevel f k moves → length moves ≤ most_moves → width f moves ≤ budget → IsFirstFit f budget k moves
  pub at_end : NoneFitsBelow f budget (suc last_level) → (k : ℕ) (moves : List Move) → IsLevel f k moves → ¬ Fits f budget moves
  pub one : (j k : ℕ) (moves others : List Move) → IsFirstFit f budget j moves → IsFirstFit f budget k others → (j ≡ k) × (moves ≡ others)

abbrev pub LevelSearch : Type 0
LevelSearch = (f : FlatForm) (budget : ℕ) → LevelsInTurn f budget

-- how the least width is kept on the way
pub record LeastInTurn (f : FlatForm) : Type 0 where
  pub start : IsLeastBelow f 0 None
  pub missing : (k : ℕ) (least : Option ℕ) → IsLeastBelow f k least → IsWidthOf f k None → IsLeastBelow f (suc k) least
  pub first : (k wide : ℕ) → IsLeastBelow f k None → IsWidthOf f k (Some wide) → IsLeastBelow f (suc k) (Some wide)
  pub less : (k least wide : ℕ) → IsLeastBelow f k (Some least) → IsWidthOf f k (Some wide) → wide ≤ least → IsLeastBelow f (suc k) (Some wide)
  pub more : (k least wide : ℕ) → IsLeastBelow f k (Some least) → IsWidthOf f k (Some wide) → least ≤ wide → IsLeastBelow f (suc k) (Some least)
  pub over : (budget k least : ℕ) → NoneFitsBelow f budget k → IsLeastBelow f k (Some least) → budget < least
  pub there : (k : ℕ) → IsFlat f → IsAcyclic (circuit_graph f) → ¬ IsLeastBelow f (suc k) None

abbrev pub LeastWidth : Type 0
LeastWidth = (f : FlatForm) → LeastInTurn f
