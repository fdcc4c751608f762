use Rattle.flat_typed.proofs.Closing.{stands_closed}
use Rattle.flat_typed.proofs.blocks_close.Goals as goal

pub returns : goal.returns
returns c = stands_closed
