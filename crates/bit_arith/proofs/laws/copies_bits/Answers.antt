use Rattle.bit_arith.proofs.Published.{copies_bits}
use Rattle.bit_arith.proofs.laws.copies_bits.Goals as goal

pub returns : goal.returns
returns c = copies_bits
