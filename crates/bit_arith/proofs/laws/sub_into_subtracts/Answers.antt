use Rattle.bit_arith.proofs.Published.{sub_into_subtracts}
use Rattle.bit_arith.proofs.laws.sub_into_subtracts.Goals as goal

pub returns : goal.returns
returns c = sub_into_subtracts
