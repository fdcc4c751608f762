use Rattle.std.proofs.Common.{◌≡◌, ◌++◌}
use Rattle.table_write.specs.Outs.{rest_of}
use Rattle.table_write.proofs.outs.shown_order.Given as goal

-- the outs, then the others so far
abbrev pub invariant-loop-qubit : goal.invariant-loop-qubit
invariant-loop-qubit l = l.order.items ≡ l.outs ++ rest_of l.qubit l.outs
