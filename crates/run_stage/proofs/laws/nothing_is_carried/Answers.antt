use Rattle.run_stage.proofs.Sequences.{nothing_to_do}
use Rattle.run_stage.proofs.laws.nothing_is_carried.Goals as goal

pub returns : goal.returns
returns c = nothing_to_do
