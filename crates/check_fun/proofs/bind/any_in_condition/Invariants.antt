use Rattle.std.proofs.Common.{◌≡◌, drop}
use Rattle.check_scope.specs.Context.{is_in_condition, variable}
use Rattle.check_fun.specs.Statement.{any_name}
use Rattle.check_fun.proofs.bind.any_in_condition.Given as goal

-- the rest tells
abbrev pub invariant-loop-name : goal.invariant-loop-name
invariant-loop-name l = any_name (λ x. is_in_condition l.cx.held (variable x)) (drop l.name-index l.names) ≡ any_name (λ x. is_in_condition l.cx.held (variable x)) l.names
