-- The steps left make what all of them make.
use Rattle.std.proofs.Common.{◌≡◌, drop}
use Rattle.test_forms.specs.Table.{with_steps}
use Rattle.test_forms.proofs.table.add_steps.Given as goal

abbrev pub invariant-loop-entry : goal.invariant-loop-entry
invariant-loop-entry l = with_steps l.fn.draft l.steps ≡ with_steps l.draft (drop l.entry-index l.steps)
