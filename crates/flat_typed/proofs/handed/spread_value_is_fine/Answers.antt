use Rattle.flat_typed.proofs.HandedValues.{spread_value_is_fine}
use Rattle.flat_typed.proofs.handed.spread_value_is_fine.Goals as goal

pub returns : goal.returns
returns c = spread_value_is_fine
