use Rattle.reqomp.proofs.Redone.{needs_are_used}
use Rattle.reqomp.proofs.laws.needs_are_used.Goals as goal

pub returns : goal.returns
returns c = needs_are_used
