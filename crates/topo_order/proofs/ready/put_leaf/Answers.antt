use Rattle.topo_order.proofs.Tree.{climb_more}
use Rattle.topo_order.proofs.ready.put_leaf.Goals as goal

pub loop-place-preserved : goal.loop-place-preserved
loop-place-preserved c = climb_more c.args.graph.now c.args.v c.args.now c.args.tree.now c.loop-place.tree c.loop-place.place c.loop-place.invariant c.loop-place-test.true c.first_of.result c.first_of.ensures
