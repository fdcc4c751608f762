use Rattle.gate_core.proofs.Runs.{run-outcomes}
use Rattle.gate_core.proofs.laws.other_outcomes_are_not_read.Goals as goal

pub returns : goal.returns
returns c = run-outcomes
