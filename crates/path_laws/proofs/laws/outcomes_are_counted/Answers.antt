use Rattle.path_laws.proofs.PathJoints.{outcomes_are_counted}
use Rattle.path_laws.proofs.laws.outcomes_are_counted.Goals as goal

pub returns : goal.returns
returns c = outcomes_are_counted
