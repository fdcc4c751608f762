use Rattle.qubit_alloc.proofs.Circuit.{inputs_stand_first}
use Rattle.qubit_alloc.proofs.laws.inputs_stand_first.Goals as goal

pub returns : goal.returns
returns c = inputs_stand_first
