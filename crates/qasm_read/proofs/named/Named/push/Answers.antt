use Rattle.qasm_read.proofs.News.{named_pushed}
use Rattle.qasm_read.proofs.named.Named.push.Goals as goal

pub invariant_of-self : goal.invariant_of-self
invariant_of-self c =
    named_pushed c.self.inside.lists c.put_list.new.lists c.args.qubits.now c.self.inside.qubits.keys c.put_list.new.set.keys
    c.in-Ok.ensures.list c.self.invariant c.in-Ok.ensures.set
