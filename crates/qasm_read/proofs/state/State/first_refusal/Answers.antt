use Rattle.qasm_read.specs.Read.{tokens_of}
use Rattle.qasm_read.proofs.Stepped.{refusal_found}
use Rattle.qasm_read.proofs.state.State.first_refusal.Goals as goal

pub returns : goal.returns
returns c =
    refusal_found c.args.taken.now.ending c.args.self.now (tokens_of c.args.taken.now.tokens.items)
    c.is_unbroken.result c.in_ok-found.found c.syntax_of.result c.earlier.result
    c.is_unbroken.ensures (rw c.deref.ensures.value at c.in_ok-found.ensures) c.syntax_of.ensures c.earlier.ensures
