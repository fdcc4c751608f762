use Rattle.std.proofs.Common.{◌≡◌, length}
use Rattle.check_scope.specs.Used.{uses_clash}
use Rattle.check_scope.specs.Uses.{some_pair}
use Rattle.check_scope.proofs.uses.some_clash_of.Given as goal

-- what is left to look at gives the answer
abbrev pub invariant-loop-rest : goal.invariant-loop-rest
invariant-loop-rest l = some_pair (uses_clash l.fn.wanted) l.rest ≡ some_pair (uses_clash l.fn.wanted) l.fn.parts

abbrev pub decreases-loop-rest : goal.decreases-loop-rest
decreases-loop-rest l = length l.rest
