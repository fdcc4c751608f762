use Rattle.silq_run.proofs.Sequences.{whole}
use Rattle.silq_run.proofs.laws.whole_runs.Goals as goal

pub returns : goal.returns
returns c = whole
