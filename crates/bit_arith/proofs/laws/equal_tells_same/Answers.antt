use Rattle.bit_arith.proofs.Published.{equal_tells_same}
use Rattle.bit_arith.proofs.laws.equal_tells_same.Goals as goal

pub returns : goal.returns
returns c = equal_tells_same
