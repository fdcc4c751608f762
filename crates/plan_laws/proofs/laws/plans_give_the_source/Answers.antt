use Rattle.plan_laws.proofs.Theorem.{plans_give}
use Rattle.plan_laws.proofs.laws.plans_give_the_source.Goals as goal

pub returns : goal.returns
returns c = plans_give
