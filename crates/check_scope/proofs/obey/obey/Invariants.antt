use Rattle.check_scope.proofs.Obeyed.{Reached}
use Rattle.check_scope.proofs.obey.obey.Given as goal

-- no rule so far is broken
abbrev pub invariant-loop-broken : goal.invariant-loop-broken
invariant-loop-broken l = Reached l.at l.tests l.broken-index
