use Rattle.bit_arith.proofs.Published.{either_is_or}
use Rattle.bit_arith.proofs.laws.either_is_or.Goals as goal

pub returns : goal.returns
returns c = either_is_or
