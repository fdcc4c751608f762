use Rattle.flat_typed.proofs.Unary.{unary_is_fine}
use Rattle.flat_typed.proofs.operators.unary_is_fine.Goals as goal

pub returns : goal.returns
returns c = unary_is_fine
