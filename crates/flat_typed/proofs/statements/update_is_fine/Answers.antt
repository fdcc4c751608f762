use Rattle.flat_typed.proofs.Stated.{updates}
use Rattle.flat_typed.proofs.statements.update_is_fine.Goals as goal

pub returns : goal.returns
returns c = updates
