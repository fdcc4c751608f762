use Rattle.std.proofs.Common.{length}
use Rattle.topo_order.proofs.Falling.{Falling}
use Rattle.topo_order.proofs.counting.take_vertex.Given as goal

abbrev pub invariant-loop-to : goal.invariant-loop-to
invariant-loop-to l = Falling l.graph l.fn.v l.fn.counters l.counters l.edges l.fn.tree l.tree

abbrev pub decreases-loop-to : goal.decreases-loop-to
decreases-loop-to l = length l.edges
