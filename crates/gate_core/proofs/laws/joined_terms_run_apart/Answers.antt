use Rattle.gate_core.proofs.Runs.{run-terms}
use Rattle.gate_core.proofs.laws.joined_terms_run_apart.Goals as goal

pub returns : goal.returns
returns c = run-terms
