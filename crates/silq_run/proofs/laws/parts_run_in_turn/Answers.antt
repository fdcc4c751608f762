use Rattle.silq_run.proofs.Sequences.{in_turn}
use Rattle.silq_run.proofs.laws.parts_run_in_turn.Goals as goal

pub returns : goal.returns
returns c = in_turn
