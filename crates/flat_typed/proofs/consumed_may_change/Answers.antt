use Rattle.flat_typed.proofs.Footprints.{consumed_may_change}
use Rattle.flat_typed.proofs.consumed_may_change.Goals as goal

pub returns : goal.returns
returns c = consumed_may_change
