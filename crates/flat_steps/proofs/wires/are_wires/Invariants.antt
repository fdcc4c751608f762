use Rattle.std.proofs.Common.{◌≡◌, drop}
use Rattle.flat_form.specs.State.{are_wires}
use Rattle.flat_steps.proofs.wires.are_wires.Given as goal

abbrev pub invariant-loop-p : goal.invariant-loop-p
invariant-loop-p l = are_wires (drop l.p-index l.operands) ≡ are_wires l.operands
