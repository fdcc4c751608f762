use Rattle.reqomp.proofs.Sameness.{orders_of_level}
use Rattle.reqomp.proofs.laws.orders_of_level.Goals as goal

pub returns : goal.returns
returns c = orders_of_level
