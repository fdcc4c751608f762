use Rattle.plan_gates.proofs.Emitted.{can_be_emitted}
use Rattle.plan_gates.proofs.laws.placed_moves_can_be_emitted.Goals as goal

pub returns : goal.returns
returns c = can_be_emitted
