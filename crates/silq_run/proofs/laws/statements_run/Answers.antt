use Rattle.silq_run.proofs.Sequences.{statements}
use Rattle.silq_run.proofs.laws.statements_run.Goals as goal

pub returns : goal.returns
returns c = statements
