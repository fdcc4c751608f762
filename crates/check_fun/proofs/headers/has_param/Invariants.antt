use Rattle.std.proofs.Common.{◌≡◌, map, drop}
use Rattle.silq_tree.specs.Arena.{expr_at}
use Rattle.silq_tree.specs.Standing.{param_of}
use Rattle.check_fun.specs.Program.{shares_name}
use Rattle.check_fun.proofs.headers.has_param.Given as goal

abbrev pub invariant-loop-param : goal.invariant-loop-param
invariant-loop-param l = shares_name l.set (map (param_of (expr_at l.library.nodes)) l.params) ≡ shares_name l.set (map (param_of (expr_at l.library.nodes)) (drop l.param-index l.params))
