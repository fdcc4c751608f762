-- The text of the circuit of a list of moves.
use Rattle.std.specs.Prelude.{ℕ, List}
use Rattle.flat_core.specs.Form.{FlatForm}
use Rattle.move_plan.specs.declared.moves.Move.{Move}
use Rattle.plan_gates.specs.PlanCircuit.{gates_of_plan, in_qubits, out_qubits}
use Rattle.qasm_write.specs.Written.{written_text}

-- the text of the circuit on so many qubits: an outcome bit for each measure, the gates of the moves in turn, and the qubits of each
-- parameter before them and of each result after them
abbrev pub plan_text : FlatForm → List Move → ℕ → List ℕ
plan_text f moves wide = written_text wide f.outcomes (in_qubits f) (gates_of_plan f moves) (out_qubits f moves)
