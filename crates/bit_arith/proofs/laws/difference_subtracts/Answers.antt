use Rattle.bit_arith.proofs.Published.{difference_subtracts}
use Rattle.bit_arith.proofs.laws.difference_subtracts.Goals as goal

pub returns : goal.returns
returns c = difference_subtracts
