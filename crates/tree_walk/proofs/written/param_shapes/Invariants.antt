use Rattle.std.proofs.Common.{◌≡◌, ◌++◌, drop, map}
use Rattle.silq_tree.specs.Arena.{expr_at}
use Rattle.tree_walk.specs.Written.{param_shape}
use Rattle.tree_walk.proofs.written.param_shapes.Given as goal

-- what the items that are left give stands behind
abbrev pub invariant-loop-param : goal.invariant-loop-param
invariant-loop-param l =
    l.shapes ++ map (param_shape l.fn.statics (expr_at l.fn.tree)) (drop l.param-index l.fn.params)
    ≡ map (param_shape l.fn.statics (expr_at l.fn.tree)) l.fn.params
