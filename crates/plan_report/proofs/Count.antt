-- How many gates the moves that are left have.
use Rattle.std.proofs.Common.{◌≡◌, ℕ, ◌+◌, ◌<◌, ◌≤◌, List, [], ◌∷◌, map, drop, length, get_or, refl, sym, ◌∙◌, ap, ap₂}
use Rattle.std.proofs.lemmas.List.{drop_more, drop_all, length-append}
use Rattle.flat_core.specs.Form.{FlatForm}
use Rattle.move_plan.specs.declared.moves.Move.{Move}
use Rattle.move_plan.specs.Progress.{Progress, at_start, moved}
use Rattle.qubit_alloc.specs.Place.{Place, place_move, first_place}
use Rattle.qubit_alloc.specs.PlacedMoves.{placed_of, placed_from}
use Rattle.gate_emit.specs.Plans.{gates_of, gates_of_all}
use Rattle.plan_gates.specs.PlacedMoves.{move_of_placed}
use Rattle.plan_gates.specs.PlanCircuit.{gates_of_plan}

-- how many gates the moves that are left have, from a progress and from places on
abbrev pub count_left : FlatForm → Progress → Place → List Move → ℕ
count_left f p place rest = length (gates_of_all (map move_of_placed (placed_from f p place rest)))

-- how many the next move has
abbrev pub count_next : FlatForm → Progress → Place → Move → ℕ
count_next f p place m = length (gates_of (move_of_placed (placed_of f p place m)))

-- those of the next move, and those that are left then
pub next_count : (f : FlatForm) (p q : Progress) (place : Place) (ms : List Move) (i : ℕ) (m : Move) → i < length ms → q ≡ moved f p (get_or ms i m)
    → count_left f p place (drop i ms)
    ≡ count_next f p place (get_or ms i m) + count_left f q (place_move f p place (get_or ms i m)) (drop (i + 1) ms)
unfolding gates_of_all
next_count f p q place ms i m l is =
    let x : Move = get_or ms i m in
    ap (count_left f p place) (drop_more ms i m l)
    ∙ length-append (gates_of (move_of_placed (placed_of f p place x))) (gates_of_all (map move_of_placed (placed_from f (moved f p x) (place_move f p place x) (drop (i + 1) ms))))
    ∙ ap (λ r. count_next f p place x + count_left f r (place_move f p place x) (drop (i + 1) ms)) (sym is)

drop_none : (ms : List Move) → drop 0 ms ≡ ms
drop_none [] = refl
drop_none (m ∷ ms) = refl

-- at the start all gates are left
pub first_count : (f : FlatForm) (p : Progress) (ms : List Move) → p ≡ at_start → count_left f p (first_place f) (drop 0 ms) ≡ length (gates_of_plan f ms)
first_count f p ms is = ap₂ (λ (q : Progress) (rest : List Move). count_left f q (first_place f) rest) is (drop_none ms)

-- and at the end none
pub last_count : (f : FlatForm) (p : Progress) (place : Place) (ms : List Move) (i : ℕ) → length ms ≤ i → count_left f p place (drop i ms) ≡ 0
unfolding gates_of_all
last_count f p place ms i h = ap (count_left f p place) (drop_all i ms h)
