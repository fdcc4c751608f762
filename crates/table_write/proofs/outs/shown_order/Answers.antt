use Rattle.table_write.proofs.Turned.{order_next}
use Rattle.table_write.proofs.outs.shown_order.Goals as goal

pub loop-qubit-preserved : goal.loop-qubit-preserved
loop-qubit-preserved c = order_next c.loop-qubit.qubit c.args.outs.now c.loop-qubit.order.items _ c.loop-qubit.invariant c.in_ok-push_other.ensures
