use Rattle.run_stage.proofs.Sequences.{in_turn}
use Rattle.run_stage.proofs.laws.parts_are_carried_in_turn.Goals as goal

pub returns : goal.returns
returns c = in_turn
