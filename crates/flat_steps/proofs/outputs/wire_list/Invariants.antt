use Rattle.std.proofs.Common.{◌≡◌, ◌++◌, drop}
use Rattle.flat_form.specs.State.{wires_in}
use Rattle.flat_steps.proofs.outputs.wire_list.Given as goal

abbrev pub invariant-loop-operand : goal.invariant-loop-operand
invariant-loop-operand l = l.wires ++ wires_in (drop l.operand-index l.operands) ≡ wires_in l.operands
