use Rattle.std.proofs.Common.{◌≡◌, drop}
use Rattle.check_scope.specs.Used.{is_used}
use Rattle.check_scope.specs.Uses.{clash}
use Rattle.check_scope.proofs.uses.clash.Given as goal

-- what is left to look at gives the answer
abbrev pub invariant-loop-item : goal.invariant-loop-item
invariant-loop-item l = clash (is_used l.fn.wanted) (drop l.item-index l.left) l.fn.right ≡ clash (is_used l.fn.wanted) l.fn.left l.fn.right
