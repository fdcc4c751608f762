-- The rows of the first groups.
use Rattle.reqomp.proofs.LevelRows.{AreRows}
use Rattle.reqomp.proofs.arena_of_level.id_table.Given as goal

abbrev pub invariant-loop-i : goal.invariant-loop-i
invariant-loop-i l = AreRows l.circuit l.groups l.i l.ids.items
