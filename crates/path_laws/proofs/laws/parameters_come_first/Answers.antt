use Rattle.path_laws.proofs.ParameterLists.{parameters_come_first}
use Rattle.path_laws.proofs.laws.parameters_come_first.Goals as goal

pub returns : goal.returns
returns c = parameters_come_first
