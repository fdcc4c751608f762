use Rattle.flat_typed.proofs.BuiltInCalls.{built_in_is_fine}
use Rattle.flat_typed.proofs.built_ins.built_in_is_fine.Goals as goal

pub returns : goal.returns
returns c = built_in_is_fine
