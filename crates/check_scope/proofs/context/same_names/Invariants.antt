use Rattle.std.proofs.Common.{◌≡◌, take}
use Rattle.check_scope.specs.Kept.{variable_names}
use Rattle.check_scope.proofs.context.same_names.Given as goal

-- so far they are the same
abbrev pub invariant-loop-n : goal.invariant-loop-n
invariant-loop-n l = take l.n (variable_names l.vars) ≡ take l.n (variable_names l.others)
