use Rattle.flat_typed.proofs.Stated.{phases}
use Rattle.flat_typed.proofs.statements.phase_is_fine.Goals as goal

pub returns : goal.returns
returns c = phases
