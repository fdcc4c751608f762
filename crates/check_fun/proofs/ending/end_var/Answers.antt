use Rattle.check_fun.proofs.LastVars.{runs_end_var}
use Rattle.check_fun.proofs.ending.end_var.Goals as goal

pub returns : goal.returns
returns c = λ check cs. runs_end_var check c.args.var c.args.cx.now _ cs c.replace.ensures
