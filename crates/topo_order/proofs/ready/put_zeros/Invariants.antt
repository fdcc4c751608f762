use Rattle.topo_order.proofs.Tree.{Zeroing}
use Rattle.topo_order.proofs.ready.put_zeros.Given as goal

abbrev pub invariant-loop-i : goal.invariant-loop-i
invariant-loop-i l = Zeroing l.graph l.fn.counters l.i l.tree
