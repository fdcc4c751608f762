use Rattle.std.proofs.Common.{length}
use Rattle.topo_order.proofs.Lowered.{Counting}
use Rattle.topo_order.proofs.counting.entering.Given as goal

abbrev pub invariant-loop-count : goal.invariant-loop-count
invariant-loop-count l = Counting l.graph l.fn.v l.count l.edges

abbrev pub decreases-loop-count : goal.decreases-loop-count
decreases-loop-count l = length l.edges
