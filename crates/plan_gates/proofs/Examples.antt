-- Teleportation and a controlled Hadamard matrix worked out.
use Rattle.std.proofs.Common.{◌≡◌, [], ◌∷◌, refl}
use Rattle.flat_core.specs.Label.{step_id}
use Rattle.move_plan.specs.declared.moves.Move.TheVariants.{Do}
use Rattle.move_plan.specs.Live.{width}
use Rattle.gate_core.specs.declared.gate.OneKind.TheVariants.{X, Z, H, S, Sdg, T, Tdg}
use Rattle.gate_core.specs.declared.gate.PlainGate.TheVariants.{One as PlainOne}
use Rattle.gate_core.specs.declared.gate.Gate.TheVariants.{One, Cx, Ccx, Measure, If}
use Rattle.gate_emit.specs.Plans.{gates_of_all}
use Rattle.plan_gates.specs.PlanCircuit.{gates_of_plan, in_qubits, out_qubits}
use Rattle.plan_gates.specs.Example.{teleportation, teleportation_moves, controlled_hadamard}

-- the condition stands on the qubit that the first of the pair has given back
three_wide : width teleportation teleportation_moves ≡ 3
three_wide = refl

teleportation_gates : gates_of_plan teleportation teleportation_moves ≡
    One H 1 ∷ Cx 1 2 ∷ Cx 0 1 ∷ One H 0 ∷ Measure 0 0 ∷ Measure 1 1 ∷ Cx 1 2
    ∷ If 1 1 (PlainOne X 1) ∷ Ccx 0 2 1 ∷ One Z 1 ∷ Ccx 0 2 1 ∷ If 0 1 (PlainOne X 0) ∷ []
unfolding gates_of_all
teleportation_gates = refl

teleportation_inputs : in_qubits teleportation ≡ (0 ∷ []) ∷ []
teleportation_inputs = refl

teleportation_outputs : out_qubits teleportation teleportation_moves ≡ (2 ∷ []) ∷ []
teleportation_outputs = refl

hadamard_gates : gates_of_plan controlled_hadamard (Do (step_id 0) ∷ []) ≡ One X 0 ∷ One S 1 ∷ One H 1 ∷ One T 1 ∷ Cx 0 1 ∷ One Tdg 1 ∷ One H 1 ∷ One Sdg 1 ∷ One X 0 ∷ []
unfolding gates_of_all
hadamard_gates = refl
