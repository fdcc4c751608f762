use Rattle.bit_arith.proofs.Published.{add_into_adds}
use Rattle.bit_arith.proofs.laws.add_into_adds.Goals as goal

pub returns : goal.returns
returns c = add_into_adds
