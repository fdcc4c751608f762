use Rattle.flat_typed.proofs.HandedValues.{assign_name_is_fine}
use Rattle.flat_typed.proofs.handed.assign_name_is_fine.Goals as goal

pub returns : goal.returns
returns c = assign_name_is_fine
