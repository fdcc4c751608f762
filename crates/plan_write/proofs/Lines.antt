-- The lines of the gates of the moves that are left.
use Rattle.std.proofs.Common.{◌≡◌, ℕ, ◌+◌, ◌<◌, ◌≤◌, List, [], ◌∷◌, ◌++◌, map, drop, length, get_or, refl, sym, ◌∙◌, ap, ap₂, append_assoc, add-one, drop-cons}
use Rattle.std.proofs.lemmas.List.{drop_more, drop_all}
use Rattle.flat_core.specs.Form.{FlatForm}
use Rattle.move_plan.specs.declared.moves.Move.{Move}
use Rattle.move_plan.specs.Progress.{Progress, at_start, moved}
use Rattle.qubit_alloc.specs.Place.{Place, place_move, first_place}
use Rattle.qubit_alloc.specs.PlacedMoves.{placed_of, placed_from}
use Rattle.gate_core.specs.declared.gate.Gate.{Gate}
use Rattle.gate_emit.specs.Plans.{gates_of, gates_of_all}
use Rattle.plan_gates.specs.PlacedMoves.{move_of_placed}
use Rattle.plan_gates.specs.PlanCircuit.{gates_of_plan}
use Rattle.qasm_write.specs.Written.{gate_line, gate_lines}

-- the lines of gates after gates
pub lines_of_both : (a b : List Gate) → gate_lines (a ++ b) ≡ gate_lines a ++ gate_lines b
lines_of_both [] b = refl
lines_of_both (g ∷ a) b = ap (λ w. gate_line g ++ w) (lines_of_both a b) ∙ sym (append_assoc (gate_line g) (gate_lines a) (gate_lines b))

-- the lines of the gates from one on
pub next_line : (gates : List Gate) (i : ℕ) (d : Gate) → i < length gates → gate_lines (drop i gates) ≡ gate_line (get_or gates i d) ++ gate_lines (drop (i + 1) gates)
next_line gates i d l =
    ap gate_lines (drop-cons gates i d l) ∙ ap (λ n. gate_line (get_or gates i d) ++ gate_lines (drop n gates)) (sym (add-one i))

-- the lines of the gates of the moves that are left, from a progress and from places on
abbrev pub lines_left : FlatForm → Progress → Place → List Move → List ℕ
lines_left f p place rest = gate_lines (gates_of_all (map move_of_placed (placed_from f p place rest)))

-- the lines of the gates of the next move
abbrev pub lines_next : FlatForm → Progress → Place → Move → List ℕ
lines_next f p place m = gate_lines (gates_of (move_of_placed (placed_of f p place m)))

-- those of the next move, and those that are left then
pub next_lines : (f : FlatForm) (p q : Progress) (place : Place) (ms : List Move) (i : ℕ) (m : Move) → i < length ms → q ≡ moved f p (get_or ms i m)
    → lines_left f p place (drop i ms)
    ≡ lines_next f p place (get_or ms i m) ++ lines_left f q (place_move f p place (get_or ms i m)) (drop (i + 1) ms)
unfolding gates_of_all
next_lines f p q place ms i m l is =
    let x : Move = get_or ms i m in
    ap (lines_left f p place) (drop_more ms i m l)
    ∙ lines_of_both (gates_of (move_of_placed (placed_of f p place x))) (gates_of_all (map move_of_placed (placed_from f (moved f p x) (place_move f p place x) (drop (i + 1) ms))))
    ∙ ap (λ r. lines_next f p place x ++ lines_left f r (place_move f p place x) (drop (i + 1) ms)) (sym is)

drop_none : (ms : List Move) → drop 0 ms ≡ ms
drop_none [] = refl
drop_none (m ∷ ms) = refl

-- at the start all lines are left
pub first_lines : (f : FlatForm) (p : Progress) (ms : List Move) → p ≡ at_start → lines_left f p (first_place f) (drop 0 ms) ≡ gate_lines (gates_of_plan f ms)
first_lines f p ms is = ap₂ (λ (q : Progress) (rest : List Move). lines_left f q (first_place f) rest) is (drop_none ms)

-- and at the end none
pub last_lines : (f : FlatForm) (p : Progress) (place : Place) (ms : List Move) (i : ℕ) → length ms ≤ i → lines_left f p place (drop i ms) ≡ []
unfolding gates_of_all
last_lines f p place ms i h = ap (lines_left f p place) (drop_all i ms h)
