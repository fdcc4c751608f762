use Rattle.qasm_read.proofs.Twice.{HaveTold}
use Rattle.qasm_read.proofs.refused.qubits_refusal.Given as goal

abbrev pub invariant-loop-operand : goal.invariant-loop-operand
invariant-loop-operand l = HaveTold l.registers l.operands l.first l.seen l.operand-index
