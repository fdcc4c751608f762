use Rattle.flat_typed.proofs.Binary.{binary_is_fine}
use Rattle.flat_typed.proofs.operators.binary_is_fine.Goals as goal

pub returns : goal.returns
returns c = binary_is_fine
