use Rattle.std.proofs.Common.{◌≡◌}
use Rattle.test_forms.specs.Table.{wire_forms_of, ids}
use Rattle.test_forms.proofs.lists.ids_of.Given as goal

abbrev pub invariant-loop-i : goal.invariant-loop-i
invariant-loop-i l = l.list ≡ ids l.side (wire_forms_of l.wires) l.i
