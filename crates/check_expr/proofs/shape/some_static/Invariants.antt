use Rattle.std.proofs.Common.{◌≡◌, drop}
use Rattle.check_expr.specs.Calls.{items}
use Rattle.check_expr.specs.Shapes.{some_static}
use Rattle.check_expr.proofs.shape.some_static.Given as goal

-- those that are left tell
abbrev pub invariant-loop-item : goal.invariant-loop-item
invariant-loop-item l = some_static l.cx.statics (items l.library (drop l.item-index l.items)) ≡ some_static l.cx.statics (items l.library l.items)
