use Rattle.silq_grammar.proofs.Accepted.{one_tree}
use Rattle.silq_grammar.proofs.laws.one_tree.Goals as goal

pub returns : goal.returns
returns c = one_tree
