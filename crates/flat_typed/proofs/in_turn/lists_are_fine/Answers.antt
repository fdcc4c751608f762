use Rattle.flat_typed.proofs.ListsStated.{lists}
use Rattle.flat_typed.proofs.in_turn.lists_are_fine.Goals as goal

pub returns : goal.returns
returns c = lists
