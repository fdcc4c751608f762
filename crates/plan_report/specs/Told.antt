-- What is told of a list of moves of a flat form.
use Rattle.std.specs.Prelude.{ℕ, List, length}
use Rattle.flat_core.specs.Form.{FlatForm}
use Rattle.move_plan.specs.declared.moves.Move.{Move}
use Rattle.plan_gates.specs.PlanCircuit.{gates_of_plan}
use Rattle.plan_report.specs.declared.report.Report.{Report}

-- the report of moves on so many qubits, made at a level: the sizes of the flat form, how many moves, and how many gates
-- the text of their circuit has
abbrev pub report_of_plan : FlatForm → List Move → ℕ → ℕ → Report
report_of_plan f moves wide level = record {
  wires = length f.wires;
  steps = length f.steps;
  outcomes = f.outcomes;
  level = level;
  moves = length moves;
  width = wide;
  gates = length (gates_of_plan f moves);
}
