use Rattle.std.proofs.Common.{◌<◌}
use Rattle.flat_core.specs.declared.step.WireId.{WireId}
use Rattle.flat_core.specs.Label.{wire_in}
use Rattle.test_forms.specs.Table.{wire_forms_of, WireFits}
use Rattle.test_forms.proofs.table.wires_fit.Given as goal

abbrev pub invariant-loop-i : goal.invariant-loop-i
invariant-loop-i l = (w : WireId) → w.number < l.i → WireFits l.draft.steps (wire_in (wire_forms_of l.wires) w) w
