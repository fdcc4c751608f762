use Rattle.std.proofs.Common.{ap}
use Rattle.qasm_read.specs.State.{State}
use Rattle.qasm_read.proofs.Barriers.{one_more}
use Rattle.qasm_read.proofs.refused.barrier_refusal.Goals as goal

pub loop-operand-preserved : goal.loop-operand-preserved
loop-operand-preserved c =
    one_more c.args.state.now c.args.operands.now c.loop-operand.first c.name_refusal.result c.earlier-first.result
    c.loop-operand.operand-index _ c.loop-operand-test.true (rw (ap (λ (s : State). s.qubits) c.state.view_is) at c.name_refusal.ensures)
    c.earlier-first.ensures c.loop-operand.invariant
