use Rattle.bit_arith.proofs.Published.{less_tells_order}
use Rattle.bit_arith.proofs.laws.less_tells_order.Goals as goal

pub returns : goal.returns
returns c = less_tells_order
