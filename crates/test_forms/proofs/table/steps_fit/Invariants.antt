use Rattle.std.proofs.Common.{◌<◌}
use Rattle.flat_core.specs.declared.step.StepId.{StepId}
use Rattle.flat_core.specs.Label.{step_in}
use Rattle.test_forms.specs.Table.{wire_forms_of, steps_of, StepFits}
use Rattle.test_forms.proofs.table.steps_fit.Given as goal

abbrev pub invariant-loop-i : goal.invariant-loop-i
invariant-loop-i l = (s : StepId) → s.number < l.i → StepFits (wire_forms_of l.wires) (step_in (steps_of l.steps) s)
