use Rattle.qubit_alloc.proofs.ApartLaws.{outputs_apart}
use Rattle.qubit_alloc.proofs.laws.outputs_apart.Goals as goal

pub returns : goal.returns
returns c = outputs_apart
