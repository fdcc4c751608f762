use Rattle.flat_typed.proofs.Stated.{calls}
use Rattle.flat_typed.proofs.statements.call_is_fine.Goals as goal

pub returns : goal.returns
returns c = calls
