use Rattle.gate_core.proofs.Runs.{run-same}
use Rattle.gate_core.proofs.laws.runs_keep_equal_amplitudes.Goals as goal

pub returns : goal.returns
returns c = run-same
