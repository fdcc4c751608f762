-- The circuit of a list of moves: its gates, and the qubits of the inputs and of the outputs.
use Rattle.std.specs.Prelude.{ℕ, Bool, List, map, replicate, false}
use Rattle.amp_core.specs.declared.Amp.{Amp}
use Rattle.flat_core.specs.declared.step.WireId.{WireId}
use Rattle.flat_core.specs.Form.{FlatForm}
use Rattle.flat_core.specs.Sound.{joined as wires_joined}
use Rattle.flat_mean.specs.Row.{Row}
use Rattle.flat_mean.specs.Terms.{values_of}
use Rattle.move_plan.specs.declared.moves.Move.{Move}
use Rattle.qubit_alloc.specs.Place.{Place, first_place, place_plan}
use Rattle.qubit_alloc.specs.PlacedMoves.{placed_all}
use Rattle.gate_core.specs.declared.gate.Gate.{Gate}
use Rattle.gate_core.specs.Meaning.{placed, joined, meaning}
use Rattle.gate_emit.specs.declared.placed.PlacedMove.{PlacedMove}
use Rattle.gate_emit.specs.Plans.{gates_of_all}
use Rattle.plan_gates.specs.PlacedMoves.{move_of_placed}

-- the moves on qubits, and their gates in turn
abbrev pub plan_moves : FlatForm → List Move → List PlacedMove
plan_moves f moves = map move_of_placed (placed_all f moves)

abbrev pub gates_of_plan : FlatForm → List Move → List Gate
gates_of_plan f moves = gates_of_all (plan_moves f moves)

-- the qubits of lists of wires
abbrev pub qubits_on : Place → List (List WireId) → List (List ℕ)
qubits_on place lists = map (map place) lists

-- the qubits of each parameter before the moves, and those of each result after them
abbrev pub in_qubits : FlatForm → List (List ℕ)
in_qubits f = qubits_on (first_place f) f.ins

abbrev pub out_qubits : FlatForm → List Move → List (List ℕ)
out_qubits f moves = qubits_on (place_plan f moves) f.outs

-- the bits with which the wires of all parameters begin, in order
abbrev pub input_bits : FlatForm → Row → List Bool
input_bits f input = values_of (wires_joined f.ins) input

-- the terms of the circuit of so many qubits
abbrev pub plan_terms : FlatForm → List Move → ℕ → Row → List Bool → List (List Bool × Amp)
plan_terms f moves wide input outcome = meaning wide f.outcomes (gates_of_plan f moves) (in_qubits f) (input_bits f input) outcome

-- the bits of the results, in order, and 0 on all other qubits
abbrev pub result_bits : FlatForm → List Move → ℕ → List Bool → List Bool
result_bits f moves wide values = placed (joined (out_qubits f moves)) values (replicate wide false)
