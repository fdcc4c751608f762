use Rattle.check_scope.proofs.NameChains.{left}
use Rattle.check_scope.proofs.VariableWalks.{Lowest}
use Rattle.check_scope.proofs.context.position.Given as goal

-- none above those that are left comes before the first one so far
abbrev pub invariant-loop-next : goal.invariant-loop-next
invariant-loop-next l = Lowest l.vars l.part l.next l.first

abbrev pub decreases-loop-next : goal.decreases-loop-next
decreases-loop-next l = left l.next
