use Rattle.bit_arith.proofs.Published.{product_multiplies}
use Rattle.bit_arith.proofs.laws.product_multiplies.Goals as goal

pub returns : goal.returns
returns c = product_multiplies
