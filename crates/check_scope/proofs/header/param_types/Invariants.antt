use Rattle.std.proofs.Common.{◌≡◌, drop, map}
use Rattle.silq_tree.specs.Arena.{expr_at}
use Rattle.silq_tree.specs.Standing.{param_of}
use Rattle.silq_mean.specs.Written.{param_types}
use Rattle.check_scope.specs.Headers.{spot_or}
use Rattle.check_scope.proofs.HeaderLists.{behind}
use Rattle.check_scope.proofs.header.param_types.Given as goal

-- the types of the parameters that are left stand behind
abbrev pub invariant-loop-param : goal.invariant-loop-param
invariant-loop-param l =
    param_types l.fn.statics l.fn.mark (spot_or l.fn.at) (map (param_of (expr_at l.fn.tree)) l.fn.params)
    ≡ behind l.types (param_types l.fn.statics l.fn.mark (spot_or l.fn.at) (map (param_of (expr_at l.fn.tree)) (drop l.param-index l.fn.params)))
