use Rattle.reqomp.proofs.Widths.{level_width}
use Rattle.reqomp.proofs.laws.level_width.Goals as goal

pub returns : goal.returns
returns c = level_width
