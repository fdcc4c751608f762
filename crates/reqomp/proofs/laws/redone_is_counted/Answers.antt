use Rattle.reqomp.proofs.Counted.{redone_is_counted}
use Rattle.reqomp.proofs.laws.redone_is_counted.Goals as goal

pub returns : goal.returns
returns c = redone_is_counted
