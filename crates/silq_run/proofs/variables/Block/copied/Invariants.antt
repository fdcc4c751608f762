use Rattle.std.proofs.Common.{◌≡◌, take}
use Rattle.silq_run.proofs.variables.Block.copied.Given as goal

abbrev pub invariant-loop-variable : goal.invariant-loop-variable
invariant-loop-variable l = l.items.items ≡ take l.variable-index l.variable-items
