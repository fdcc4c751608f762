use Rattle.std.proofs.Common.{drop}
use Rattle.silq_types.specs.Known.{Signatures}
use Rattle.check_expr.specs.Calls.{items}
use Rattle.check_expr.specs.Expression.{static_arguments}
use Rattle.check_scope.specs.State.{scope_in}
use Rattle.check_expr.proofs.Called.{Going}
use Rattle.check_expr.proofs.own.static_arguments.Given as goal

-- the arguments that are left tell the rest
abbrev pub invariant-loop-e : goal.invariant-loop-e
invariant-loop-e l = (met : Signatures) → Going met (static_arguments (items l.library (drop l.e-index l.args)) (scope_in l.library l.cx)) (static_arguments (items l.library l.args) (scope_in l.library l.cx)) l.cx l.cx l.values
