use Rattle.reqomp.proofs.EqualMarks.{equally_marked}
use Rattle.reqomp.proofs.laws.equally_marked.Goals as goal

pub returns : goal.returns
returns c = equally_marked
