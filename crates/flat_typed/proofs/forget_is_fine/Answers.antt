use Rattle.flat_typed.proofs.Forgetting.{forget_is_fine}
use Rattle.flat_typed.proofs.forget_is_fine.Goals as goal

pub returns : goal.returns
returns c = forget_is_fine
