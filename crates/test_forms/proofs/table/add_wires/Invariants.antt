-- The wires left make what all of them make.
use Rattle.std.proofs.Common.{◌≡◌, drop}
use Rattle.test_forms.specs.Table.{with_entries}
use Rattle.test_forms.proofs.table.add_wires.Given as goal

abbrev pub invariant-loop-entry : goal.invariant-loop-entry
invariant-loop-entry l = with_entries l.fn.draft l.wires ≡ with_entries l.draft (drop l.entry-index l.wires)
