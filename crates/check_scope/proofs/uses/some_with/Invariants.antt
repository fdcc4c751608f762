use Rattle.std.proofs.Common.{◌≡◌, drop}
use Rattle.check_scope.specs.Used.{uses_clash}
use Rattle.check_scope.specs.Uses.{some_with}
use Rattle.check_scope.proofs.uses.some_with.Given as goal

-- what is left to look at gives the answer
abbrev pub invariant-loop-other : goal.invariant-loop-other
invariant-loop-other l = some_with (uses_clash l.fn.wanted) l.fn.uses (drop l.other-index l.rest) ≡ some_with (uses_clash l.fn.wanted) l.fn.uses l.fn.rest
