use Rattle.qasm_read.proofs.Bits.{HaveNamed}
use Rattle.qasm_read.proofs.gate.bits_named.Given as goal

abbrev pub invariant-loop-operand : goal.invariant-loop-operand
invariant-loop-operand l = HaveNamed l.registers l.operands l.found.items l.operand-index
