use Rattle.check_fun.proofs.Bodies.{instances-proper}
use Rattle.check_fun.proofs.laws.signatures_are_proper.Goals as goal

pub returns : goal.returns
returns c = instances-proper
