-- The gates of a plan: how many they are, and what its `if`s compare with.
use Rattle.std.proofs.Common.{◌≡◌, ℕ, zero, suc, ◌+◌, ◌*◌, ◌≤◌, Bool, true, false, cond, List, [], ◌∷◌, ◌++◌, map, length, length-append, get_or, All, refl, ap}
use Rattle.std.proofs.Common.{◌∙◌, arith}
use Rattle.std.proofs.lemmas.List.{length-map}
use Rattle.std.proofs.lemmas.List.Elements.{All-nil, All-cons, All-append}
use Rattle.gate_core.specs.declared.gate.OneKind.TheVariants.{X, H, S, Sdg, T, Tdg}
use Rattle.gate_core.specs.declared.gate.PlainGate.{PlainGate}
use Rattle.gate_core.specs.declared.gate.PlainGate.TheVariants.{One as PlainOne, Cx as PlainCx, Cz as PlainCz, Ccx as PlainCcx}
use Rattle.gate_core.specs.declared.gate.Gate.{Gate}
use Rattle.gate_core.specs.declared.gate.Gate.TheVariants.{One, Cx, Cz, Ccx, Measure, If}
use Rattle.gate_core.specs.Local.{as_gate}
use Rattle.gate_emit.specs.declared.placed.Control.{Control}
use Rattle.gate_emit.specs.declared.placed.QubitMove.{QubitMove}
use Rattle.gate_emit.specs.declared.placed.QubitMove.TheVariants.{Flip, FlipBy, FlipByTwo, Hadamard, HadamardBy, PhaseBy}
use Rattle.gate_emit.specs.declared.placed.PlacedMove.{PlacedMove}
use Rattle.gate_emit.specs.declared.placed.PlacedMove.TheVariants.{Unitary, Measured, Cleared, Released}
use Rattle.gate_emit.specs.Moves.{around, move_gates, phase_kinds}
use Rattle.gate_emit.specs.Plans.{gates_of, gates_of_all}
use Rattle.flat_core.specs.Form.{FlatForm}
use Rattle.move_plan.specs.declared.moves.Move.{Move}
use Rattle.move_plan.specs.Progress.{Progress, moved, at_start}
use Rattle.qubit_alloc.specs.Place.{Place, first_place, place_move}
use Rattle.qubit_alloc.specs.PlacedMoves.{placed_from, placed_all}
use Rattle.plan_gates.specs.PlacedMoves.{move_of_placed}
use Rattle.plan_gates.specs.PlanCircuit.{plan_moves, gates_of_plan}
use Rattle.read_laws.specs.Laws.{ValueFits}
use Rattle.table_laws.proofs.Lengths.{AsksForOne}

-- ---- one move

around_few : (c : Control) (gs : List PlainGate) → length (around c gs) ≤ length gs + 2
around_few c gs = by c.positive
  where
    by : (b : Bool) → length (cond b gs (PlainOne X c.qubit ∷ (gs ++ PlainOne X c.qubit ∷ []))) ≤ length gs + 2
    by true = omega arith
    by false = let e = length-append gs (PlainOne X c.qubit ∷ []) in omega (arith, e)

few_kinds : (eighths : ℕ) → length (phase_kinds eighths) ≤ 2
few_kinds zero = omega arith
few_kinds (suc zero) = omega arith
few_kinds (suc (suc zero)) = omega arith
few_kinds (suc (suc (suc zero))) = omega arith
few_kinds (suc (suc (suc (suc zero)))) = omega arith
few_kinds (suc (suc (suc (suc (suc zero))))) = omega arith
few_kinds (suc (suc (suc (suc (suc (suc zero)))))) = omega arith
few_kinds (suc (suc (suc (suc (suc (suc (suc zero))))))) = omega arith
few_kinds (suc (suc (suc (suc (suc (suc (suc (suc n)))))))) = omega arith

nine_at_most : (m : QubitMove) → length (move_gates m) ≤ 9
nine_at_most (Flip t) = omega arith
nine_at_most (FlipBy c t) = let a = around_few c (PlainCx c.qubit t ∷ []) in omega (arith, a)
nine_at_most (FlipByTwo c e t) =
    let a = around_few e (PlainCcx c.qubit e.qubit t ∷ []) in
    let b = around_few c (around e (PlainCcx c.qubit e.qubit t ∷ [])) in
    omega (arith, a, b)
nine_at_most (Hadamard t) = omega arith
nine_at_most (HadamardBy c t) =
    around_few c (PlainOne S t ∷ PlainOne H t ∷ PlainOne T t ∷ PlainCx c.qubit t ∷ PlainOne Tdg t ∷ PlainOne H t ∷ PlainOne Sdg t ∷ [])
nine_at_most (PhaseBy eighths c) =
    let a = around_few c (map (λ kind. PlainOne kind c.qubit) (phase_kinds eighths)) in
    let e = length-map (phase_kinds eighths) (λ kind. PlainOne kind c.qubit) in
    let k = few_kinds eighths in
    omega (arith, a, e, k)

few_of_move : (m : PlacedMove) → length (gates_of m) ≤ 9
few_of_move (Unitary m) = let a = nine_at_most m in let e = length-map (move_gates m) as_gate in omega (arith, a, e)
few_of_move (Measured q bit) = omega arith
few_of_move (Cleared q bit) = omega arith
few_of_move Released = omega arith

plain_asks : (gs : List PlainGate) → All AsksForOne (map as_gate gs)
plain_asks [] = All-nil AsksForOne
plain_asks (PlainOne kind q ∷ gs) = All-cons AsksForOne (One kind q) (map as_gate gs) tt (plain_asks gs)
plain_asks (PlainCx c t ∷ gs) = All-cons AsksForOne (Cx c t) (map as_gate gs) tt (plain_asks gs)
plain_asks (PlainCz c t ∷ gs) = All-cons AsksForOne (Cz c t) (map as_gate gs) tt (plain_asks gs)
plain_asks (PlainCcx a b t ∷ gs) = All-cons AsksForOne (Ccx a b t) (map as_gate gs) tt (plain_asks gs)

move_asks : (m : PlacedMove) → All AsksForOne (gates_of m)
move_asks (Unitary m) = plain_asks (move_gates m)
move_asks (Measured q bit) = All-cons AsksForOne (Measure q bit) [] tt (All-nil AsksForOne)
move_asks (Cleared q bit) = All-cons AsksForOne (If bit 1 (PlainOne X q)) [] refl (All-nil AsksForOne)
move_asks Released = All-nil AsksForOne

-- ---- all moves

gates_few : (ms : List PlacedMove) → length (gates_of_all ms) ≤ 9 * length ms
unfolding gates_of_all
gates_few [] = omega arith
gates_few (m ∷ ms) =
    let a = few_of_move m in
    let b = gates_few ms in
    let e = length-append (gates_of m) (gates_of_all ms) in
    omega (arith, a, b, e)

gates_ask : (ms : List PlacedMove) → All AsksForOne (gates_of_all ms)
unfolding gates_of_all
gates_ask [] = All-nil AsksForOne
gates_ask (m ∷ ms) = All-append AsksForOne (gates_of m) (gates_of_all ms) (move_asks m) (gates_ask ms)

as_many_placed : (f : FlatForm) (p : Progress) (place : Place) (ms : List Move) → length (placed_from f p place ms) ≡ length ms
as_many_placed f p place [] = refl
as_many_placed f p place (m ∷ ms) = ap suc (as_many_placed f (moved f p m) (place_move f p place m) ms)

-- at most nine gates for each move
pub plan_gates_few : (f : FlatForm) (moves : List Move) → length (gates_of_plan f moves) ≤ 9 * length moves
plan_gates_few f moves =
    let a = gates_few (plan_moves f moves) in
    let e : length (plan_moves f moves) ≡ length moves =
    length-map (placed_all f moves) move_of_placed ∙ as_many_placed f at_start (first_place f) moves in
    omega (arith, a, e)

pub plan_gates_ask : (f : FlatForm) (moves : List Move) → All AsksForOne (gates_of_plan f moves)
plan_gates_ask f moves = gates_ask (plan_moves f moves)

value_fits : (g : Gate) → AsksForOne g → ValueFits g
value_fits (One kind q) v = tt
value_fits (Cx c t) v = tt
value_fits (Cz c t) v = tt
value_fits (Ccx a b t) v = tt
value_fits (Measure q bit) v = tt
value_fits (If bit value gate) v = omega (arith, v)

pub values_fit : (gs : List Gate) → All AsksForOne gs → All ValueFits gs
values_fit gs h = λ k d l. value_fits (get_or gs k d) (h k d l)
