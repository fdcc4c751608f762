use Rattle.qubit_alloc.proofs.Circuit.{placed_moves_agree}
use Rattle.qubit_alloc.proofs.laws.placed_moves_agree.Goals as goal

pub returns : goal.returns
returns c = placed_moves_agree
