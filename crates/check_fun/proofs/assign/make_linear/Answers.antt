use Rattle.std.proofs.Common.{sym}
use Rattle.check_fun.proofs.Assigning.{runs_made, runs_unmade}
use Rattle.check_fun.proofs.Stepped.{runs_put}
use Rattle.check_fun.proofs.assign.make_linear.Goals as goal

pub returns-in-Some : goal.returns-in-Some
returns-in-Some c = λ check cs. runs_made check c.args.cx.now.vars c.args.part c.in-Some.var c.args.cx.now _ cs (sym c.in-Some.ensures) (runs_put check _ c.args.cx.now _ cs _ c.replace.ensures)

pub returns-in_default : goal.returns-in_default
returns-in_default c = λ check cs. runs_unmade check c.args.cx.now c.args.part cs (sym c.in_default.ensures)
