use Rattle.bit_arith.proofs.Published.{had_splits}
use Rattle.bit_arith.proofs.laws.had_splits.Goals as goal

pub returns : goal.returns
returns c = had_splits
