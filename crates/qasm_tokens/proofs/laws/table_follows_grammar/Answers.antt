use Rattle.qasm_tokens.proofs.Accepted.{follows}
use Rattle.qasm_tokens.proofs.laws.table_follows_grammar.Goals as goal

pub returns : goal.returns
returns c = follows
