use Rattle.move_plan.proofs.AtEnd.{moves_give_amplitudes}
use Rattle.move_plan.proofs.laws.moves_give_amplitudes.Goals as goal

pub returns : goal.returns
returns c = moves_give_amplitudes
