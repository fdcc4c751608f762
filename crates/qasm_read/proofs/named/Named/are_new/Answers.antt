use Rattle.qasm_read.proofs.News.{told_new}
use Rattle.qasm_read.proofs.named.Named.are_new.Goals as goal

pub returns : goal.returns
returns c = rw (← c.self.view_is) (told_new c.are_new.result c.self.inside.qubits.keys c.args.qubits.now _ c.are_new.ensures c.self.invariant.index)
