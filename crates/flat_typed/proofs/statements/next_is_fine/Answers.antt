use Rattle.flat_typed.proofs.Stated.{nexts}
use Rattle.flat_typed.proofs.statements.next_is_fine.Goals as goal

pub returns : goal.returns
returns c = nexts
