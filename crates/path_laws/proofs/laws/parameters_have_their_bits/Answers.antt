use Rattle.path_laws.proofs.ParameterLists.{parameters_have_their_bits}
use Rattle.path_laws.proofs.laws.parameters_have_their_bits.Goals as goal

pub returns : goal.returns
returns c = parameters_have_their_bits
