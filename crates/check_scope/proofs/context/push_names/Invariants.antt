use Rattle.std.proofs.Common.{◌≡◌, ◌++◌, take}
use Rattle.check_scope.specs.Kept.{variable_names}
use Rattle.check_scope.proofs.context.push_names.Given as goal

-- those so far
abbrev pub invariant-loop-var : goal.invariant-loop-var
invariant-loop-var l = l.names ≡ l.fn.names ++ variable_names (take l.var-index l.vars)
