use Rattle.bit_arith.proofs.Published.{both_is_and}
use Rattle.bit_arith.proofs.laws.both_is_and.Goals as goal

pub returns : goal.returns
returns c = both_is_and
