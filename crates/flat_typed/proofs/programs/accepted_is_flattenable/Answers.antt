use Rattle.flat_typed.proofs.Every.{accepted_is_flattenable}
use Rattle.flat_typed.proofs.programs.accepted_is_flattenable.Goals as goal

pub returns : goal.returns
returns c = accepted_is_flattenable
