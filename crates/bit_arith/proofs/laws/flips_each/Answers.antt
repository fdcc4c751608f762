use Rattle.bit_arith.proofs.Published.{flips_each}
use Rattle.bit_arith.proofs.laws.flips_each.Goals as goal

pub returns : goal.returns
returns c = flips_each
