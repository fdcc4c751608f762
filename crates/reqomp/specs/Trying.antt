-- What is known of a level that was tried, and of the levels gone through so far.
use Rattle.std.specs.Prelude.{◌≡◌, ℕ, ◌≤◌, List, ◌∷◌, ◌++◌, map, reverse, length, slice_get, Some}
use Rattle.flat_core.specs.declared.step.WireId.{WireId}
use Rattle.flat_core.specs.declared.step.StepId.{StepId}
use Rattle.flat_core.specs.Form.{FlatForm}
use Rattle.graph_core.specs.declared.vertex.Vertex.{Vertex}
use Rattle.unqomp.specs.GraphOf.{IsGraphOf}
use Rattle.topo_order.specs.ReadyOrder.{IsReadyOrder}
use Rattle.move_plan.specs.declared.moves.Move.{Move}
use Rattle.move_plan.specs.declared.moves.Move.TheVariants.{Up, Down}
use Rattle.move_plan.specs.declared.moves.Plan.{Plan}
use Rattle.move_plan.specs.AsMoves.{move_of}
use Rattle.move_plan.specs.Live.{width}
use Rattle.move_plan.specs.Track.{IsMadeFor}
use Rattle.reqomp.specs.declared.groups.Group.{Group}
use Rattle.reqomp.specs.declared.levels.Planner.{Planner}
use Rattle.reqomp.specs.declared.levels.Outcome.{Outcome}
use Rattle.reqomp.specs.declared.levels.Outcome.TheVariants.{Fitting, Over}
use Rattle.reqomp.specs.Growing.{AreNear}
use Rattle.reqomp.specs.Simple.{simple_wires, marked_at}
use Rattle.reqomp.specs.Level.{level_graph, IsRedone, AreMoves, IsLevel}
use Rattle.reqomp.specs.Passing.{IsSearch}
use Rattle.reqomp.specs.Search.{most_moves, NoneFitsBelow, IsFirstFit, IsLeastBelow}

-- the moves of a vertex: some steps done, its own move, and these steps undone, the last one first
abbrev pub group_moves : FlatForm → Vertex → List StepId → List Move
group_moves f v steps = map Up steps ++ (move_of f v ∷ map Down (reverse steps))

-- each group has the steps that are done again for its vertex
abbrev pub AreRedone : FlatForm → List WireId → List Group → Type 0
AreRedone f marked groups = (i : ℕ) (group : Group) → slice_get groups i ≡ Some group → IsRedone f marked group.vertex group.steps.items

-- the moves of the ready order of a level's graph, valid or not
pub record HasOrderMoves (f : FlatForm) (k : ℕ) (moves : List Move) : Type 0 where
  pub order : List Vertex
  pub ready : IsReadyOrder (level_graph f (marked_at f k)) order
  pub groups : AreMoves f (marked_at f k) order moves

-- a plan has the moves of level k, which are not too many, and their width
pub record IsPlanOf (f : FlatForm) (k : ℕ) (p : Plan) : Type 0 where
  pub at : p.level ≡ k
  pub is_level : IsLevel f k p.moves
  pub few : length p.moves ≤ most_moves
  pub wide : p.width ≡ width f p.moves

-- what the levels are planned from belongs to a form
pub record IsPlanner (f : FlatForm) (planner : Planner) : Type 0 where
  pub of_form : IsGraphOf f planner.circuit
  pub near_are : AreNear planner.circuit planner.near.items
  pub simple_are : planner.simple ≡ simple_wires f
  pub is_search : IsSearch f planner.search
  pub made : IsMadeFor f planner.rows

-- the plan of the first level that fits, or that no level below level k does, with the least width of these
abbrev pub IsOutcome : FlatForm → ℕ → ℕ → Outcome → Type 0
IsOutcome f budget k (Fitting p) = IsFirstFit f budget p.level p.moves × (p.width ≡ width f p.moves)
IsOutcome f budget k (Over least) = NoneFitsBelow f budget k × IsLeastBelow f k (Some least)
