use Rattle.topo_order.proofs.Tree.{Climbing}
use Rattle.topo_order.proofs.ready.put_leaf.Given as goal

abbrev pub invariant-loop-place : goal.invariant-loop-place
invariant-loop-place l = Climbing l.graph l.fn.v l.fn.now l.fn.tree l.tree l.place

abbrev pub decreases-loop-place : goal.decreases-loop-place
decreases-loop-place l = l.place
