use Rattle.silq_lex.proofs.Longests.{longest_is}
use Rattle.silq_lex.proofs.laws.longest_front_is_longest.Goals as goal

pub returns : goal.returns
returns c = longest_is
