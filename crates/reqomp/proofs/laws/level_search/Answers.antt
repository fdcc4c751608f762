use Rattle.reqomp.proofs.Widths.{level_search}
use Rattle.reqomp.proofs.laws.level_search.Goals as goal

pub returns : goal.returns
returns c = level_search
