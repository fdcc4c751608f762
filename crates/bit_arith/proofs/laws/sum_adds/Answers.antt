use Rattle.bit_arith.proofs.Published.{sum_adds}
use Rattle.bit_arith.proofs.laws.sum_adds.Goals as goal

pub returns : goal.returns
returns c = sum_adds
