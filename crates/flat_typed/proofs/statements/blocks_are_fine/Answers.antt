use Rattle.flat_typed.proofs.Stated.{blocks}
use Rattle.flat_typed.proofs.statements.blocks_are_fine.Goals as goal

pub returns : goal.returns
returns c = blocks
