use Rattle.qasm_read.proofs.Operands.{HaveGiven}
use Rattle.qasm_read.proofs.operand.operands.Given as goal

abbrev pub invariant-loop-i : goal.invariant-loop-i
invariant-loop-i l = HaveGiven l.tokens l.found.items l.i
