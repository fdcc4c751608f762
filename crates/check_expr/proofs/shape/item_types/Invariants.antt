use Rattle.std.proofs.Common.{◌≡◌, ◌++◌, drop}
use Rattle.check_expr.specs.Calls.{items}
use Rattle.check_expr.specs.Shapes.{item_types}
use Rattle.check_scope.specs.State.{scope_in}
use Rattle.check_expr.proofs.shape.item_types.Given as goal

-- the types of the items that are left stand behind
abbrev pub invariant-loop-item : goal.invariant-loop-item
invariant-loop-item l =
    l.types ++ item_types (items l.library (drop l.item-index l.items)) (scope_in l.library l.cx) l.cx.vars l.known
    ≡ item_types (items l.library l.items) (scope_in l.library l.cx) l.cx.vars l.known
