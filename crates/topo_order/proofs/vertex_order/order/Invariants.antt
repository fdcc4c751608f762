use Rattle.std.proofs.Common.{count_by, not}
use Rattle.topo_order.proofs.Falling.{Turning}
use Rattle.topo_order.proofs.vertex_order.order.Given as goal

abbrev pub invariant-loop-v : goal.invariant-loop-v
invariant-loop-v l = Turning l.graph l.taken.items l.ids l.counters.items l.tree.items

abbrev pub decreases-loop-v : goal.decreases-loop-v
decreases-loop-v l = count_by not l.taken.items
