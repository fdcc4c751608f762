use Rattle.bit_arith.proofs.Published.{drafts_are_fresh}
use Rattle.bit_arith.proofs.laws.drafts_are_fresh.Goals as goal

pub returns : goal.returns
returns c = drafts_are_fresh
