use Rattle.reqomp.proofs.Marks.{example_redone}
use Rattle.reqomp.proofs.laws.example_redone.Goals as goal

pub returns : goal.returns
returns c = example_redone
