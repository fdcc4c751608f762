use Rattle.flat_typed.proofs.WalkThere.{uses_are_there}
use Rattle.flat_typed.proofs.uses_are_there.Goals as goal

pub returns : goal.returns
returns c = uses_are_there
