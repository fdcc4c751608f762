use Rattle.flat_core.proofs.Kept.{keeps_ends}
use Rattle.flat_core.proofs.laws.flat_keeps_ends.Goals as goal

pub returns : goal.returns
returns c = keeps_ends
