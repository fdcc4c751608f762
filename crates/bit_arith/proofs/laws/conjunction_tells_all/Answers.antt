use Rattle.bit_arith.proofs.Published.{conjunction_tells_all}
use Rattle.bit_arith.proofs.laws.conjunction_tells_all.Goals as goal

pub returns : goal.returns
returns c = conjunction_tells_all
