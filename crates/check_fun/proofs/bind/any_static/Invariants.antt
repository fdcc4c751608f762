use Rattle.std.proofs.Common.{◌≡◌, drop}
use Rattle.std.specs.Prelude.{is_some}
use Rattle.silq_mean.specs.Written.{value_of}
use Rattle.check_fun.specs.Statement.{any_name}
use Rattle.check_fun.proofs.bind.any_static.Given as goal

-- the rest tells
abbrev pub invariant-loop-name : goal.invariant-loop-name
invariant-loop-name l = any_name (λ x. is_some (value_of l.cx.statics x)) (drop l.name-index l.names) ≡ any_name (λ x. is_some (value_of l.cx.statics x)) l.names
