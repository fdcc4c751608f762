use Rattle.bit_arith.proofs.Published.{growth_keeps}
use Rattle.bit_arith.proofs.laws.growth_keeps.Goals as goal

pub returns : goal.returns
returns c = growth_keeps
