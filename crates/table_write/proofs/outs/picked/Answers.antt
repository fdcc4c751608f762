use Rattle.table_write.proofs.Turned.{pick_next}
use Rattle.table_write.proofs.outs.picked.Goals as goal

pub loop-qubit-preserved : goal.loop-qubit-preserved
loop-qubit-preserved c =
    pick_next c.args.order.now c.args.bits.now c.loop-qubit.list _ c.loop-qubit.qubit-index _ _
    c.loop-qubit-test.true c.requires c.loop-qubit.invariant c.in_ok-push.ensures.ok
