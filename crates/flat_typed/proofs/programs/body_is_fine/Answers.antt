use Rattle.flat_typed.proofs.Bodies.{body_is_fine}
use Rattle.flat_typed.proofs.programs.body_is_fine.Goals as goal

pub returns : goal.returns
returns c = body_is_fine
