use Rattle.std.proofs.Common.{◌≡◌, ◌++◌, drop}
use Rattle.flat_form.specs.Flat.{wire_lists}
use Rattle.flat_steps.proofs.outputs.wire_lists.Given as goal

abbrev pub invariant-loop-value : goal.invariant-loop-value
invariant-loop-value l = l.lists ++ wire_lists (drop l.value-index l.values) ≡ wire_lists l.values
