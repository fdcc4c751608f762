use Rattle.std.proofs.Common.{◌≡◌, ◌++◌, drop}
use Rattle.check_expr.specs.Asks.{all_asked}
use Rattle.check_expr.specs.Expression.{asked_of_items}
use Rattle.check_expr.proofs.expr.asked_items.Given as goal

abbrev pub invariant-loop-ty : goal.invariant-loop-ty
invariant-loop-ty l = all_asked l.asks ++ asked_of_items l.need (drop l.ty-index l.wants) ≡ asked_of_items l.need l.wants
