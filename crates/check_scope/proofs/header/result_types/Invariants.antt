use Rattle.std.proofs.Common.{◌≡◌, drop, map}
use Rattle.silq_tree.specs.Arena.{expr_at}
use Rattle.silq_tree.specs.Standing.{type_of}
use Rattle.silq_mean.specs.Written.{result_types}
use Rattle.check_scope.specs.Headers.{spot_or}
use Rattle.check_scope.proofs.HeaderLists.{behind}
use Rattle.check_scope.proofs.header.result_types.Given as goal

-- the types of the results that are left stand behind
abbrev pub invariant-loop-ty : goal.invariant-loop-ty
invariant-loop-ty l =
    result_types l.fn.statics (spot_or l.fn.at) (map (type_of (expr_at l.fn.tree)) l.fn.results)
    ≡ behind l.types (result_types l.fn.statics (spot_or l.fn.at) (map (type_of (expr_at l.fn.tree)) (drop l.ty-index l.fn.results)))
