use Rattle.qasm_read.proofs.Gathered.{HaveGathered}
use Rattle.qasm_read.proofs.line.qubits_named.Given as goal

abbrev pub invariant-loop-text : goal.invariant-loop-text
invariant-loop-text l = HaveGathered l.registers l.texts l.found.items l.text-index
