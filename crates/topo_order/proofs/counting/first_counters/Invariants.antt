use Rattle.topo_order.proofs.Lowered.{CountersBelow}
use Rattle.topo_order.proofs.counting.first_counters.Given as goal

abbrev pub invariant-loop-i : goal.invariant-loop-i
invariant-loop-i l = CountersBelow l.graph l.i l.counters.items
