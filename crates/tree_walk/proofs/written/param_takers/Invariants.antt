use Rattle.std.proofs.Common.{◌≡◌, ◌++◌, drop, map}
use Rattle.silq_tree.specs.Arena.{expr_at}
use Rattle.tree_walk.specs.Written.{param_taker}
use Rattle.tree_walk.proofs.written.param_takers.Given as goal

-- what the items that are left give stands behind
abbrev pub invariant-loop-param : goal.invariant-loop-param
invariant-loop-param l =
    l.takers ++ map (param_taker l.fn.statics (expr_at l.fn.tree) l.fn.mark) (drop l.param-index l.fn.params)
    ≡ map (param_taker l.fn.statics (expr_at l.fn.tree) l.fn.mark) l.fn.params
