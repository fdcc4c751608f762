use Rattle.flat_typed.proofs.Footprints.{operands_apart}
use Rattle.flat_typed.proofs.operands_apart.Goals as goal

pub returns : goal.returns
returns c = operands_apart
