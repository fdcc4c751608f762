use Rattle.reqomp.proofs.Length.{level_length}
use Rattle.reqomp.proofs.laws.level_length.Goals as goal

pub returns : goal.returns
returns c = level_length
