use Rattle.std.proofs.Common.{length}
use Rattle.check_scope.proofs.NameChains.{left}
use Rattle.check_scope.proofs.VariableWalks.{Walked, in_the_way}
use Rattle.check_scope.proofs.context.disturbs.Given as goal

-- none above those that are left is in the way
abbrev pub invariant-loop-next : goal.invariant-loop-next
invariant-loop-next l = Walked l.vars l.part.name (in_the_way l.part) l.next (length l.vars)

abbrev pub decreases-loop-next : goal.decreases-loop-next
decreases-loop-next l = left l.next
