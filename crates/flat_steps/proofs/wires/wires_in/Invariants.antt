use Rattle.std.proofs.Common.{◌≡◌, ◌++◌, drop}
use Rattle.flat_form.specs.State.{wires_in}
use Rattle.flat_steps.proofs.wires.wires_in.Given as goal

abbrev pub invariant-loop-p : goal.invariant-loop-p
invariant-loop-p l = l.wires.items ++ wires_in (drop l.p-index l.operands) ≡ wires_in l.operands
