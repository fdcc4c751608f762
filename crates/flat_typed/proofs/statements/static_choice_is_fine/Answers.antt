use Rattle.flat_typed.proofs.Stated.{static_choices}
use Rattle.flat_typed.proofs.statements.static_choice_is_fine.Goals as goal

pub returns : goal.returns
returns c = static_choices
