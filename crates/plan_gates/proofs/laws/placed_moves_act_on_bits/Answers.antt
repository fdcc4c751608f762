use Rattle.plan_gates.proofs.PlanLaws.{act_on_bits}
use Rattle.plan_gates.proofs.laws.placed_moves_act_on_bits.Goals as goal

pub returns : goal.returns
returns c = act_on_bits
