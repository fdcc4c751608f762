use Rattle.std.proofs.Common.{◌≡◌}
use Rattle.check_expr.specs.Expression.{all_lifted}
use Rattle.check_expr.proofs.own.all_lifted.Given as goal

-- the pairs that are left tell
abbrev pub invariant-loop-param : goal.invariant-loop-param
invariant-loop-param l =
    (goal.iterator-loop-param).can_next l.param-iterator ×
    (goal.iterator-loop-param).is_finite l.param-iterator ×
    (all_lifted l.param-iterator.a.rest.now l.param-iterator.b.rest.now ≡ all_lifted l.params l.values)
