use Rattle.qasm_read.proofs.Barriers.{HaveAsked}
use Rattle.qasm_read.proofs.refused.barrier_refusal.Given as goal

abbrev pub invariant-loop-operand : goal.invariant-loop-operand
invariant-loop-operand l = HaveAsked l.state l.operands l.first l.operand-index
