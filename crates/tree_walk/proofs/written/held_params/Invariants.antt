use Rattle.std.proofs.Common.{◌≡◌, ◌++◌, drop}
use Rattle.tree_walk.specs.Written.{held_nodes}
use Rattle.tree_walk.proofs.written.held_params.Given as goal

-- what the items that are left give stands behind
abbrev pub invariant-loop-param : goal.invariant-loop-param
invariant-loop-param l = l.names ++ held_nodes l.fn.mark (drop l.param-index l.fn.params) ≡ held_nodes l.fn.mark l.fn.params
