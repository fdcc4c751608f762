-- The law that joins what a program means to the circuits of its plans, as a statement.
use Rattle.std.specs.Prelude.{◌≡◌, ℕ, ◌≤◌, List, None}
use Rattle.silq_mean.specs.Table.{Job}
use Rattle.flat_core.specs.Form.{FlatForm}
use Rattle.flat_form.specs.Flat.{flattened}
use Rattle.flat_form.specs.Jobs.{FineJob, EndsWell}
use Rattle.move_plan.specs.declared.moves.Move.{Move}
use Rattle.move_plan.specs.Progress.{IsPlan}
use Rattle.move_plan.specs.Live.{width}
use Rattle.plan_gates.specs.PlanCircuit.{gates_of_plan, in_qubits, out_qubits}
use Rattle.plan_laws.specs.Circuits.{Spelled, IsCircuitOf}

-- the circuit of a list of moves on so many qubits
abbrev pub plan_circuit : FlatForm → List Move → ℕ → Spelled
plan_circuit f moves wide = record { qubits = wide; outcomes = f.outcomes; ins = in_qubits f; gates = gates_of_plan f moves; outs = out_qubits f moves }

-- within all limits the circuit of a valid list of moves of a program's flat form, on its width of qubits or more, is a circuit of the program
abbrev pub PlansGiveTheSource : Type 0
PlansGiveTheSource =
    (j : Job) (moves : List Move) (wide : ℕ) → FineJob j → EndsWell j → (flattened j).over ≡ None
    → IsPlan (flattened j).form moves → width (flattened j).form moves ≤ wide
    → IsCircuitOf j (plan_circuit (flattened j).form moves wide)
