use Rattle.move_plan.proofs.AtEnd.{paths_at_amplitudes}
use Rattle.move_plan.proofs.laws.moves_give_paths.Goals as goal

pub returns : goal.returns
returns c = paths_at_amplitudes
