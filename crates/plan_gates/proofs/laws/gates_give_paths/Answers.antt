use Rattle.plan_gates.proofs.PlanLaws.{gates_give_paths}
use Rattle.plan_gates.proofs.laws.gates_give_paths.Goals as goal

pub returns : goal.returns
returns c = gates_give_paths
