use Rattle.reqomp.proofs.OneList.{no_order_no_level}
use Rattle.reqomp.proofs.laws.no_order_no_level.Goals as goal

pub returns : goal.returns
returns c = no_order_no_level
