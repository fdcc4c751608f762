use Rattle.plan_gates.proofs.PlanLaws.{plans_fit}
use Rattle.plan_gates.proofs.laws.plans_fit.Goals as goal

pub returns : goal.returns
returns c = plans_fit
