use Rattle.std.proofs.Common.{◌≡◌, drop}
use Rattle.check_scope.specs.Context.{find_var, variable}
use Rattle.check_fun.specs.Statement.{any_name, passes, is_held_var}
use Rattle.check_fun.proofs.bind.any_held.Given as goal

-- the rest tells
abbrev pub invariant-loop-name : goal.invariant-loop-name
invariant-loop-name l = any_name (λ x. passes is_held_var (find_var l.cx.vars (variable x))) (drop l.name-index l.names) ≡ any_name (λ x. passes is_held_var (find_var l.cx.vars (variable x))) l.names
