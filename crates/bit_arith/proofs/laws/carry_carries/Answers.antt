use Rattle.bit_arith.proofs.Published.{carry_carries}
use Rattle.bit_arith.proofs.laws.carry_carries.Goals as goal

pub returns : goal.returns
returns c = carry_carries
