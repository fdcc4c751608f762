use Rattle.bit_arith.proofs.Published.{flips_keep_one_term}
use Rattle.bit_arith.proofs.laws.flips_keep_one_term.Goals as goal

pub returns : goal.returns
returns c = flips_keep_one_term
