use Rattle.bit_arith.proofs.Published.{flips_where_all_hold}
use Rattle.bit_arith.proofs.laws.flips_where_all_hold.Goals as goal

pub returns : goal.returns
returns c = flips_where_all_hold
