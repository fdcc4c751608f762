use Rattle.std.proofs.Common.{◌≡◌, drop}
use Rattle.silq_types.specs.Types.{same_name}
use Rattle.check_fun.specs.Statement.{any_name}
use Rattle.check_fun.proofs.block.has_static.Given as goal

abbrev pub invariant-loop-param : goal.invariant-loop-param
invariant-loop-param l = any_name (λ y. same_name y l.name) (drop l.param-index l.param-items) ≡ any_name (λ y. same_name y l.name) l.param-items
