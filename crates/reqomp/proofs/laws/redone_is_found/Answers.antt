use Rattle.reqomp.proofs.Redone.{redone_is_found}
use Rattle.reqomp.proofs.laws.redone_is_found.Goals as goal

pub returns : goal.returns
returns c = redone_is_found
