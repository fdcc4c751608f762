use Rattle.std.proofs.Common.{◌≡◌, ◌++◌, drop, map}
use Rattle.check_expr.specs.Asks.{all_asked}
use Rattle.check_expr.specs.Expression.{asked_by}
use Rattle.check_expr.proofs.own.asks_of.Given as goal

-- what the parameters that are left ask stands behind
abbrev pub invariant-loop-param : goal.invariant-loop-param
invariant-loop-param l = all_asked l.asks ++ map asked_by (drop l.param-index l.params) ≡ map asked_by l.params
