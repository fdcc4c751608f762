-- Two forms placed by hand: teleportation, and two ands in the room of one.
use Rattle.std.proofs.Common.{◌≡◌, ℕ, Bool, true, false, Option, Some, None, List, [], ◌∷◌, map, refl}
use Rattle.flat_core.specs.declared.step.Step.{Step}
use Rattle.flat_core.specs.declared.step.Step.TheVariants.{X, H, P, M}
use Rattle.flat_core.specs.declared.step.End.{End}
use Rattle.flat_core.specs.declared.step.End.TheVariants.{Output, Dropped, Measured}
use Rattle.flat_core.specs.declared.step.Lit.{Lit}
use Rattle.flat_core.specs.Form.{FlatForm, WireForm}
use Rattle.flat_core.specs.Label.{wire_id, step_id}
use Rattle.move_plan.specs.declared.moves.Move.{Move}
use Rattle.move_plan.specs.declared.moves.Move.TheVariants.{Up, Down, Do, Free}
use Rattle.qubit_alloc.specs.declared.placed.Placed.{Placed}
use Rattle.qubit_alloc.specs.Place.{place_plan}
use Rattle.qubit_alloc.specs.PlacedMoves.{placed_all}

abbrev on : ℕ → Option Lit
on w = Some (record { wire = wire_id w; positive = true })

abbrev wire : Bool → End → WireForm
wire input ending = record { input = input; ending = ending }

-- a move with the end that is told, the qubits of target and controls, and the outcome number
abbrev row : Move → Option Step → End → Option ℕ → Option ℕ → Option ℕ → ℕ → Placed
row mv step end target first second bit = record { mv = mv; step = step; end = end; target = target; first = first; second = second; bit = bit }

-- teleportation of wire 0 by the pair of wires 1 and 2; the Z on wire 2 goes by wire 3
abbrev phase_step : Step
phase_step = X (wire_id 3) (on 0) (on 2)

abbrev phase : Lit
phase = record { wire = wire_id 3; positive = true }

abbrev teleportation : FlatForm
teleportation = record {
  wires = wire true Measured ∷ wire false Measured ∷ wire false Output ∷ wire false Dropped ∷ [];
  steps =
      H (wire_id 1) None ∷ X (wire_id 2) (on 1) None ∷ X (wire_id 1) (on 0) None ∷ H (wire_id 0) None ∷ M (wire_id 0) 0 ∷ M (wire_id 1) 1
      ∷ X (wire_id 2) (on 1) None ∷ phase_step ∷ P 4 phase ∷ [];
  lines = 1 ∷ 1 ∷ 1 ∷ 1 ∷ 1 ∷ 1 ∷ 1 ∷ 1 ∷ 1 ∷ [];
  outcomes = 2;
  ins = (wire_id 0 ∷ []) ∷ [];
  outs = (wire_id 2 ∷ []) ∷ [];
}

abbrev teleportation_moves : List Move
teleportation_moves =
    Do (step_id 0) ∷ Do (step_id 1) ∷ Do (step_id 2) ∷ Do (step_id 3) ∷ Do (step_id 4) ∷ Do (step_id 5) ∷ Do (step_id 6)
    ∷ Free (wire_id 1) ∷ Up (step_id 7) ∷ Do (step_id 8) ∷ Down (step_id 7) ∷ Free (wire_id 0) ∷ []

-- wire 3 comes to stand on qubit 1, which wire 1 has given back
teleportation_placed : placed_all teleportation teleportation_moves ≡
    row (Do (step_id 0)) (Some (H (wire_id 1) None)) Measured (Some 1) None None 0
    ∷ row (Do (step_id 1)) (Some (X (wire_id 2) (on 1) None)) Output (Some 2) (Some 1) None 0
    ∷ row (Do (step_id 2)) (Some (X (wire_id 1) (on 0) None)) Measured (Some 1) (Some 0) None 0
    ∷ row (Do (step_id 3)) (Some (H (wire_id 0) None)) Measured (Some 0) None None 0
    ∷ row (Do (step_id 4)) (Some (M (wire_id 0) 0)) Measured (Some 0) None None 0
    ∷ row (Do (step_id 5)) (Some (M (wire_id 1) 1)) Measured (Some 1) None None 1
    ∷ row (Do (step_id 6)) (Some (X (wire_id 2) (on 1) None)) Output (Some 2) (Some 1) None 0
    ∷ row (Free (wire_id 1)) None Measured (Some 1) None None 1
    ∷ row (Up (step_id 7)) (Some phase_step) Dropped (Some 1) (Some 0) (Some 2) 0
    ∷ row (Do (step_id 8)) (Some (P 4 phase)) Dropped None (Some 1) None 0
    ∷ row (Down (step_id 7)) (Some phase_step) Dropped (Some 1) (Some 0) (Some 2) 0
    ∷ row (Free (wire_id 0)) None Measured (Some 0) None None 0
    ∷ []
teleportation_placed = refl

teleportation_ends : place_plan teleportation teleportation_moves (wire_id 2) ≡ 2
teleportation_ends = refl

-- the ands of wires 0 and 1 and of 2 and 3, which flip wire 4 in turn, and of which one is there at a time; wire 7 is an
-- output that nothing touches
abbrev first_and : Step
first_and = X (wire_id 5) (on 0) (on 1)

abbrev second_and : Step
second_and = X (wire_id 6) (on 2) (on 3)

abbrev two_ands : FlatForm
two_ands = record {
  wires = wire true Output ∷ wire true Output ∷ wire true Output ∷ wire true Output ∷ wire true Output ∷ wire false Dropped ∷ wire false Dropped ∷ wire false Output ∷ [];
  steps = first_and ∷ second_and ∷ X (wire_id 4) (on 5) None ∷ X (wire_id 4) (on 6) None ∷ X (wire_id 4) (on 5) None ∷ [];
  lines = 1 ∷ 1 ∷ 1 ∷ 1 ∷ 1 ∷ [];
  outcomes = 0;
  ins = (wire_id 0 ∷ []) ∷ (wire_id 1 ∷ []) ∷ (wire_id 2 ∷ []) ∷ (wire_id 3 ∷ []) ∷ (wire_id 4 ∷ []) ∷ [];
  outs = (wire_id 0 ∷ []) ∷ (wire_id 1 ∷ []) ∷ (wire_id 2 ∷ []) ∷ (wire_id 3 ∷ []) ∷ (wire_id 4 ∷ []) ∷ (wire_id 7 ∷ []) ∷ [];
}

abbrev two_ands_tight : List Move
two_ands_tight =
    Up (step_id 0) ∷ Do (step_id 2) ∷ Down (step_id 0) ∷ Up (step_id 1) ∷ Do (step_id 3) ∷ Down (step_id 1)
    ∷ Up (step_id 0) ∷ Do (step_id 4) ∷ Down (step_id 0) ∷ []

two_ands_placed : placed_all two_ands two_ands_tight ≡
    row (Up (step_id 0)) (Some first_and) Dropped (Some 5) (Some 0) (Some 1) 0
    ∷ row (Do (step_id 2)) (Some (X (wire_id 4) (on 5) None)) Output (Some 4) (Some 5) None 0
    ∷ row (Down (step_id 0)) (Some first_and) Dropped (Some 5) (Some 0) (Some 1) 0
    ∷ row (Up (step_id 1)) (Some second_and) Dropped (Some 5) (Some 2) (Some 3) 0
    ∷ row (Do (step_id 3)) (Some (X (wire_id 4) (on 6) None)) Output (Some 4) (Some 5) None 0
    ∷ row (Down (step_id 1)) (Some second_and) Dropped (Some 5) (Some 2) (Some 3) 0
    ∷ row (Up (step_id 0)) (Some first_and) Dropped (Some 5) (Some 0) (Some 1) 0
    ∷ row (Do (step_id 4)) (Some (X (wire_id 4) (on 5) None)) Output (Some 4) (Some 5) None 0
    ∷ row (Down (step_id 0)) (Some first_and) Dropped (Some 5) (Some 0) (Some 1) 0
    ∷ []
two_ands_placed = refl

-- the inputs stand where they began, and the untouched output on the qubit that the ands had
two_ands_end : map (place_plan two_ands two_ands_tight) (wire_id 0 ∷ wire_id 1 ∷ wire_id 2 ∷ wire_id 3 ∷ wire_id 4 ∷ wire_id 7 ∷ []) ≡ 0 ∷ 1 ∷ 2 ∷ 3 ∷ 4 ∷ 5 ∷ []
two_ands_end = refl

-- the untouched outputs of a form without steps, in the order of their wires
abbrev untouched : FlatForm
untouched = record { wires = wire false Output ∷ wire true Output ∷ wire false Output ∷ []; steps = []; lines = []; outcomes = 0; ins = (wire_id 1 ∷ []) ∷ []; outs = (wire_id 0 ∷ wire_id 1 ∷ wire_id 2 ∷ []) ∷ [] }

untouched_end : map (place_plan untouched []) (wire_id 0 ∷ wire_id 1 ∷ wire_id 2 ∷ []) ≡ 1 ∷ 0 ∷ 2 ∷ []
untouched_end = refl
