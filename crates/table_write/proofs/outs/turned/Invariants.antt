use Rattle.std.proofs.Common.{◌≡◌, take}
use Rattle.sum_laws.specs.Terms.{pick}
use Rattle.table_write.proofs.Turned.{turned}
use Rattle.table_write.proofs.outs.turned.Given as goal

-- the rows so far
abbrev pub invariant-loop-i : goal.invariant-loop-i
invariant-loop-i l = l.terms ≡ turned (pick l.order) (take l.i l.table)
