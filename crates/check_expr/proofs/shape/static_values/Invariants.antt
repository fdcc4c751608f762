use Rattle.std.proofs.Common.{◌≡◌, drop}
use Rattle.check_expr.specs.Calls.{items}
use Rattle.check_scope.specs.Uses.{index_values}
use Rattle.check_expr.proofs.ShapesCode.{behind}
use Rattle.check_expr.proofs.shape.static_values.Given as goal

-- the values of the arguments that are left stand behind
abbrev pub invariant-loop-e : goal.invariant-loop-e
invariant-loop-e l = behind l.values (index_values l.cx.statics (items l.library (drop l.e-index l.args))) ≡ index_values l.cx.statics (items l.library l.args)
