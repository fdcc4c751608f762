use Rattle.std.proofs.Common.{rules}
use Rattle.topo_order.proofs.Lowered.{counting_start}
use Rattle.topo_order.proofs.counting.entering.Goals as goal

pub loop-count-init : goal.loop-count-init
loop-count-init c = search (rules, counting_start)
