use Rattle.plan_gates.proofs.Told.{placers_tell_lists}
use Rattle.plan_gates.proofs.laws.placers_tell_lists.Goals as goal

pub returns : goal.returns
returns c = placers_tell_lists
