use Rattle.silq_run.proofs.Sequences.{choices}
use Rattle.silq_run.proofs.laws.choices_run.Goals as goal

pub returns : goal.returns
returns c = choices
