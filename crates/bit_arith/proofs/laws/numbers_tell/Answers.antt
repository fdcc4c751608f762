use Rattle.bit_arith.proofs.Published.{numbers_tell}
use Rattle.bit_arith.proofs.laws.numbers_tell.Goals as goal

pub returns : goal.returns
returns c = numbers_tell
