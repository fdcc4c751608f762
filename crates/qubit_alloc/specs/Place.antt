-- Which qubit each wire stands on. A place is a function of all wires, and is meant at those that are on a qubit.
use Rattle.std.specs.Prelude.{◌≡◌, ℕ, zero, suc, ◌<◌, Bool, true, false, cond, not, ◌&&◌, ◌||◌, ◌==◌, nat_lt, Option, Some, None, List, [], ◌∷◌, length}
use Rattle.flat_core.specs.declared.step.Step.{Step}
use Rattle.flat_core.specs.declared.step.WireId.{WireId}
use Rattle.flat_core.specs.Form.{FlatForm}
use Rattle.flat_core.specs.Label.{wire_id, same_wire, main_wire, step_at, end_of, is_input}
use Rattle.flat_mean.specs.Path.{inputs_before}
use Rattle.move_plan.specs.declared.moves.Move.{Move}
use Rattle.move_plan.specs.declared.moves.Move.TheVariants.{Up, Down, Do, Free}
use Rattle.move_plan.specs.Progress.{Progress, at_start, moved, progress}
use Rattle.move_plan.specs.Effect.{is_output}
use Rattle.move_plan.specs.Live.{live}

abbrev pub Place : Type 0
Place = WireId → ℕ

-- the step of a move
abbrev pub step_of : FlatForm → Move → Option Step
step_of f (Up s) = Some (step_at f s)
step_of f (Down s) = Some (step_at f s)
step_of f (Do s) = Some (step_at f s)
step_of f (Free w) = None

-- the wire that a move changes or measures, and that has to be on a qubit for it
abbrev pub main_of : FlatForm → Move → Option WireId
main_of f (Up s) = main_wire (step_at f s)
main_of f (Down s) = main_wire (step_at f s)
main_of f (Do s) = main_wire (step_at f s)
main_of f (Free w) = None

-- the first of n numbers, from i on, that passes a test; past them where none does
abbrev pub first_from : ℕ → ℕ → (ℕ → Bool) → ℕ
first_from zero i test = i
first_from (suc n) i test = cond (test i) i (first_from n (suc i) test)

-- whether one of the first n numbers passes a test
abbrev pub any_below : ℕ → (ℕ → Bool) → Bool
any_below zero test = false
any_below (suc n) test = any_below n test || test n

-- whether one of the wires that are on a qubit stands on qubit j
abbrev pub is_taken : FlatForm → (WireId → Bool) → Place → ℕ → Bool
is_taken f on place j = any_below (length f.wires) (λ w. on (wire_id w) && (place (wire_id w) == j))

-- the least qubit on which no wire stands: with n wires, one of the first n
abbrev pub least_free : FlatForm → (WireId → Bool) → Place → ℕ
least_free f on place = first_from (length f.wires) 0 (λ j. not (is_taken f on place j))

abbrev pub put_on : WireId → ℕ → Place → Place
put_on w j place = λ v. cond (same_wire v w) j (place v)

-- a wire that has to be on a qubit, and is not, gets the least free one
abbrev pub place_wire : FlatForm → (WireId → Bool) → Place → WireId → Place
place_wire f on place w = cond (on w) place (put_on w (least_free f on place) place)

abbrev pub place_if_any : FlatForm → (WireId → Bool) → Place → Option WireId → Place
place_if_any f on place None = place
place_if_any f on place (Some w) = place_wire f on place w

-- the places during and after a move; a wire that is not live any more has given its qubit back
abbrev pub place_move : FlatForm → Progress → Place → Move → Place
place_move f p place m = place_if_any f (live f p) place (main_of f m)

abbrev pub place_all : FlatForm → Progress → Place → List Move → Place
place_all f p place [] = place
place_all f p place (m ∷ ms) = place_all f (moved f p m) (place_move f p place m) ms

-- the inputs stand on the qubits 0, 1 and so on, in the order of their wires
abbrev pub first_place : FlatForm → Place
first_place f w = cond (is_input f w) (inputs_before f.wires w.number) 0

-- the wires on qubits at the end, once the Output wires among the first n are placed
abbrev pub on_below : FlatForm → Progress → ℕ → WireId → Bool
on_below f p n w = live f p w || (is_output (end_of f w) && nat_lt w.number n)

-- the places once the Output wires among the first n wires are placed, in wire order
abbrev pub place_outputs : FlatForm → Progress → Place → ℕ → Place
place_outputs f p place zero = place
place_outputs f p place (suc n) =
    cond (is_output (end_of f (wire_id n)))
    (place_wire f (on_below f p n) (place_outputs f p place n) (wire_id n))
    (place_outputs f p place n)

-- at the end each Output wire that nothing touched gets the least free qubit, in wire order
abbrev pub at_end : FlatForm → Progress → Place → Place
at_end f p place = place_outputs f p place (length f.wires)

-- the places at the end of a whole list of moves
abbrev pub place_plan : FlatForm → List Move → Place
place_plan f moves = at_end f (progress f at_start moves) (place_all f at_start (first_place f) moves)

-- the wires that are on stand on different qubits below the width
pub record IsPlaced (f : FlatForm) (on : WireId → Bool) (wide : ℕ) (place : Place) : Type 0 where
  pub below : (w : WireId) → w.number < length f.wires → on w ≡ true → place w < wide
  pub apart : (v w : WireId) → v.number < length f.wires → w.number < length f.wires → on v ≡ true → on w ≡ true → place v ≡ place w → v ≡ w
