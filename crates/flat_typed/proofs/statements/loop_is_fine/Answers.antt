use Rattle.flat_typed.proofs.Stated.{loops}
use Rattle.flat_typed.proofs.statements.loop_is_fine.Goals as goal

pub returns : goal.returns
returns c = loops
