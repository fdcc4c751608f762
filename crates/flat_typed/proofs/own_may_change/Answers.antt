use Rattle.flat_typed.proofs.Owning.{value_may_change}
use Rattle.flat_typed.proofs.own_may_change.Goals as goal

pub returns : goal.returns
returns c = value_may_change
