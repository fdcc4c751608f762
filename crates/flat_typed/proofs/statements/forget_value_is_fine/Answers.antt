use Rattle.flat_typed.proofs.Stated.{forgets}
use Rattle.flat_typed.proofs.statements.forget_value_is_fine.Goals as goal

pub returns : goal.returns
returns c = forgets
