use Rattle.reqomp.proofs.OneList.{level_is_one_list}
use Rattle.reqomp.proofs.laws.level_is_one_list.Goals as goal

pub returns : goal.returns
returns c = level_is_one_list
