-- An order of a flat form's circuit graph, read as a list of moves.
use Rattle.std.specs.Prelude.{cond, List, map}
use Rattle.flat_core.specs.Form.{FlatForm}
use Rattle.flat_core.specs.Ends.{undone}
use Rattle.flat_core.specs.Sound.{IsFlat}
use Rattle.graph_core.specs.Digraph.{IsLinearOrder}
use Rattle.graph_core.specs.Circuit.{circuit_graph}
use Rattle.graph_core.specs.declared.vertex.Vertex.{Vertex}
use Rattle.graph_core.specs.declared.vertex.Vertex.TheVariants.{Forward, Reverse, Free as FreeVertex}
use Rattle.move_plan.specs.declared.moves.Move.{Move}
use Rattle.move_plan.specs.declared.moves.Move.TheVariants.{Up, Down, Do, Free}
use Rattle.move_plan.specs.Progress.{IsPlan}

-- the move of a vertex
abbrev pub move_of : FlatForm → Vertex → Move
move_of f (Forward s) = cond (undone f s) (Up s) (Do s)
move_of f (Reverse s) = Down s
move_of f (FreeVertex w) = Free w

abbrev pub moves_of : FlatForm → List Vertex → List Move
moves_of f order = map (move_of f) order

-- each linear order of the circuit graph is a valid list of moves
abbrev pub OrdersAreValid : Type 0
OrdersAreValid = (f : FlatForm) → IsFlat f → (order : List Vertex) → IsLinearOrder (circuit_graph f) order → IsPlan f (moves_of f order)
