-- Moves with the qubits of their wires.
use Rattle.std.specs.Prelude.{ℕ, cond, ◌||◌, Option, Some, None, List, [], ◌∷◌}
use Rattle.flat_core.specs.declared.step.Step.{Step}
use Rattle.flat_core.specs.declared.step.Step.TheVariants.{X, H, P, M}
use Rattle.flat_core.specs.declared.step.End.{End}
use Rattle.flat_core.specs.declared.step.WireId.{WireId}
use Rattle.flat_core.specs.Form.{FlatForm}
use Rattle.flat_core.specs.Label.{first_wire, second_wire, step_at, end_of}
use Rattle.move_plan.specs.declared.moves.Move.{Move}
use Rattle.move_plan.specs.declared.moves.Move.TheVariants.{Up, Down, Do, Free}
use Rattle.move_plan.specs.Progress.{Progress, at_start, moved}
use Rattle.move_plan.specs.Effect.{is_measured, number_of}
use Rattle.move_plan.specs.Live.{live}
use Rattle.move_plan.specs.Track.{touched}
use Rattle.qubit_alloc.specs.declared.placed.Placed.{Placed}
use Rattle.qubit_alloc.specs.Place.{Place, step_of, place_move, first_place}

-- the wires of the first and of the second control of a move's step
abbrev pub first_of : FlatForm → Move → Option WireId
first_of f (Up s) = first_wire (step_at f s)
first_of f (Down s) = first_wire (step_at f s)
first_of f (Do s) = first_wire (step_at f s)
first_of f (Free w) = None

abbrev pub second_of : FlatForm → Move → Option WireId
second_of f (Up s) = second_wire (step_at f s)
second_of f (Down s) = second_wire (step_at f s)
second_of f (Do s) = second_wire (step_at f s)
second_of f (Free w) = None

-- the wire whose end is told: what a step changes or measures, and the control of a P
abbrev pub end_wire : Step → WireId
end_wire (X target first second) = target
end_wire (H target control) = target
end_wire (P eighths control) = control.wire
end_wire (M wire number) = wire

abbrev pub end_in : FlatForm → Move → End
end_in f (Up s) = end_of f (end_wire (step_at f s))
end_in f (Down s) = end_of f (end_wire (step_at f s))
end_in f (Do s) = end_of f (end_wire (step_at f s))
end_in f (Free w) = end_of f w

-- the number of the outcome bit of a measure, 0 for another step
abbrev pub number_in : Step → ℕ
number_in (X target first second) = 0
number_in (H target control) = 0
number_in (P eighths control) = 0
number_in (M wire number) = number

abbrev pub bit_of : FlatForm → Move → ℕ
bit_of f (Up s) = number_in (step_at f s)
bit_of f (Down s) = number_in (step_at f s)
bit_of f (Do s) = number_in (step_at f s)
bit_of f (Free w) = cond (is_measured (end_of f w)) (number_of f.steps w) 0

-- the qubit of a wire in a move: it stands on one where it is live before the move or after it
abbrev pub qubit_in : FlatForm → Progress → Place → Move → Option WireId → Option ℕ
qubit_in f p place mv None = None
qubit_in f p place mv (Some w) = cond (live f p w || live f (moved f p mv) w) (Some (place_move f p place mv w)) None

-- a move with its qubits, from the progress and the places before it
abbrev pub placed_of : FlatForm → Progress → Place → Move → Placed
placed_of f p place mv = record {
  mv = mv;
  step = step_of f mv;
  end = end_in f mv;
  target = qubit_in f p place mv (touched f mv);
  first = qubit_in f p place mv (first_of f mv);
  second = qubit_in f p place mv (second_of f mv);
  bit = bit_of f mv;
}

abbrev pub placed_from : FlatForm → Progress → Place → List Move → List Placed
placed_from f p place [] = []
placed_from f p place (m ∷ ms) = placed_of f p place m ∷ placed_from f (moved f p m) (place_move f p place m) ms

-- a whole list of moves with their qubits
abbrev pub placed_all : FlatForm → List Move → List Placed
placed_all f moves = placed_from f at_start (first_place f) moves
