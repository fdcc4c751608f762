use Rattle.std.proofs.Common.{◌≡◌, drop}
use Rattle.check_scope.specs.Used.{is_used}
use Rattle.check_scope.specs.Uses.{meets}
use Rattle.check_scope.proofs.uses.meets.Given as goal

-- what is left to look at gives the answer
abbrev pub invariant-loop-other : goal.invariant-loop-other
invariant-loop-other l = meets (is_used l.fn.wanted) l.fn.part (drop l.other-index l.uses) ≡ meets (is_used l.fn.wanted) l.fn.part l.fn.uses
