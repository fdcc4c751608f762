use Rattle.std.proofs.Common.{◌≡◌, drop}
use Rattle.check_expr.specs.Expression.{some_linear}
use Rattle.check_fun.proofs.assign.some_linear.Given as goal

-- the rest tells
abbrev pub invariant-loop-value : goal.invariant-loop-value
invariant-loop-value l = some_linear (drop l.value-index l.values) ≡ some_linear l.values
