use Rattle.std.proofs.Common.{◌≡◌, ◌++◌, drop, map}
use Rattle.check_scope.specs.Used.{node_need}
use Rattle.check_scope.proofs.uses.param_needs.Given as goal

-- what the parameters that are left ask stands behind
abbrev pub invariant-loop-param : goal.invariant-loop-param
invariant-loop-param l = l.asked ++ map (node_need l.fn.mark) (drop l.param-index l.params) ≡ map (node_need l.fn.mark) l.fn.params
