use Rattle.qasm_read.proofs.News.{HaveTold}
use Rattle.qasm_read.proofs.named.are_new.Given as goal

abbrev pub invariant-loop-qubit : goal.invariant-loop-qubit
invariant-loop-qubit l = HaveTold l.seen.keys l.line.keys l.qubits l.qubit-index
