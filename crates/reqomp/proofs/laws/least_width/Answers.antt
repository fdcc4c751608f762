use Rattle.reqomp.proofs.Widths.{least_width}
use Rattle.reqomp.proofs.laws.least_width.Goals as goal

pub returns : goal.returns
returns c = least_width
