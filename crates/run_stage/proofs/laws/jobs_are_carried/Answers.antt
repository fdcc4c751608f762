use Rattle.run_stage.proofs.Sequences.{jobs}
use Rattle.run_stage.proofs.laws.jobs_are_carried.Goals as goal

pub returns : goal.returns
returns c = jobs
