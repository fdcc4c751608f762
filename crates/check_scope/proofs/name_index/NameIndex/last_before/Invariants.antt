use Rattle.check_scope.proofs.NameChains.{Above, left}
use Rattle.check_scope.proofs.name_index.NameIndex.last_before.Given as goal

-- no number between n and what is found has the name
abbrev pub invariant-loop-found : goal.invariant-loop-found
invariant-loop-found l = Above l.self l.fn.name l.n l.found

abbrev pub decreases-loop-found : goal.decreases-loop-found
decreases-loop-found l = left l.found
