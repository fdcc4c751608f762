use Rattle.silq_print.proofs.Depths.{only_is}
use Rattle.silq_print.proofs.depth.one_way.Goals as goal

pub returns : goal.returns
returns c = λ s l. only_is c.args.signs c.args.depth s c.requires l
