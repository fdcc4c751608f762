use Rattle.reqomp.proofs.Marks.{example_marks}
use Rattle.reqomp.proofs.laws.example_marks.Goals as goal

pub returns : goal.returns
returns c = example_marks
