use Rattle.std.proofs.Common.{◌≡◌, take}
use Rattle.check_scope.specs.Library.{names_at}
use Rattle.check_scope.proofs.library.function_names.Given as goal

-- those so far
abbrev pub invariant-loop-id : goal.invariant-loop-id
invariant-loop-id l = l.names ≡ names_at l.tree (take l.id-index l.funs)
