use Rattle.plan_gates.proofs.Emitted.{one_more}
use Rattle.plan_gates.proofs.laws.one_more_move_adds_its_gates.Goals as goal

pub returns : goal.returns
returns c = one_more
