use Rattle.std.proofs.Common.{◌≡◌, drop}
use Rattle.silq_tree.specs.Arena.{expr_at}
use Rattle.silq_tree.specs.Standing.{expressions_of}
use Rattle.check_expr.specs.Expression.{all_typed}
use Rattle.check_expr.proofs.built_in.all_typed.Given as goal

-- those that are left tell
abbrev pub invariant-loop-e : goal.invariant-loop-e
invariant-loop-e l = all_typed (expressions_of (expr_at l.tree) (drop l.e-index l.items)) ≡ all_typed (expressions_of (expr_at l.tree) l.items)
