use Rattle.qubit_alloc.proofs.Circuit.{placed_plans_agree}
use Rattle.qubit_alloc.proofs.laws.placed_plans_agree.Goals as goal

pub returns : goal.returns
returns c = placed_plans_agree
