-- Two flat forms and lists of moves of them, to be worked out.
use Rattle.std.specs.Prelude.{ℕ, true, false, Some, None, List, [], ◌∷◌, length, replicate}
use Rattle.flat_core.specs.declared.step.Step.{Step}
use Rattle.flat_core.specs.declared.step.Step.TheVariants.{X, H, P, M}
use Rattle.flat_core.specs.declared.step.End.TheVariants.{Output, Dropped, Measured}
use Rattle.flat_core.specs.declared.step.Lit.{Lit}
use Rattle.flat_core.specs.Form.{FlatForm, DraftForm}
use Rattle.flat_core.specs.Label.{wire_id, step_id}
use Rattle.flat_core.specs.Drafts.{finished}
use Rattle.move_plan.specs.declared.moves.Move.{Move}
use Rattle.move_plan.specs.declared.moves.Move.TheVariants.{Up, Down, Do, Free}

-- a draft with these steps alone, all of line 1
abbrev pub with_steps : DraftForm → List Step → DraftForm
with_steps d steps = record { wires = d.wires; steps = steps; lines = replicate (length steps) 1 }

abbrev pub literal : ℕ → Lit
literal w = record { wire = wire_id w; positive = true }

-- teleportation: an input that is measured, a pair of new wires of which the first is measured, and a condition on the
-- first outcome and the second of the pair
abbrev pub teleportation_steps : List Step
teleportation_steps =
    H (wire_id 1) None ∷ X (wire_id 2) (Some (literal 1)) None ∷ X (wire_id 1) (Some (literal 0)) None ∷ H (wire_id 0) None ∷ M (wire_id 0) 0 ∷ M (wire_id 1) 1
    ∷ X (wire_id 2) (Some (literal 1)) None ∷ X (wire_id 3) (Some (literal 0)) (Some (literal 2)) ∷ P 4 (literal 3) ∷ []

abbrev pub teleportation_draft : DraftForm
teleportation_draft = record {
  wires = record { input = true; ending = Measured } ∷ record { input = false; ending = Measured } ∷ record { input = false; ending = Output } ∷ record { input = false; ending = Dropped } ∷ [];
  steps = teleportation_steps;
  lines = 1 ∷ 1 ∷ 1 ∷ 1 ∷ 1 ∷ 1 ∷ 1 ∷ 1 ∷ 1 ∷ [];
}

abbrev pub teleportation : FlatForm
teleportation = finished teleportation_draft ((wire_id 0 ∷ []) ∷ []) ((wire_id 2 ∷ []) ∷ [])

abbrev pub teleportation_moves : List Move
teleportation_moves =
    Do (step_id 0) ∷ Do (step_id 1) ∷ Do (step_id 2) ∷ Do (step_id 3) ∷ Do (step_id 4) ∷ Do (step_id 5) ∷ Do (step_id 6)
    ∷ Free (wire_id 1) ∷ Up (step_id 7) ∷ Do (step_id 8) ∷ Down (step_id 7) ∷ Free (wire_id 0) ∷ []

-- a Hadamard matrix where the first of two inputs is 0
abbrev pub controlled_hadamard_draft : DraftForm
controlled_hadamard_draft = record {
  wires = record { input = true; ending = Output } ∷ record { input = true; ending = Output } ∷ [];
  steps = H (wire_id 1) (Some (record { wire = wire_id 0; positive = false })) ∷ [];
  lines = 1 ∷ [];
}

abbrev pub controlled_hadamard : FlatForm
controlled_hadamard = finished controlled_hadamard_draft ((wire_id 0 ∷ []) ∷ (wire_id 1 ∷ []) ∷ []) ((wire_id 0 ∷ []) ∷ (wire_id 1 ∷ []) ∷ [])
