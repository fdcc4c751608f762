use Rattle.check_expr.specs.Expression.{expr}
use Rattle.check_fun.specs.Program.{instances}
use Rattle.check_scope.proofs.Readings.{continues}
use Rattle.check_expr.proofs.Quiet.{expr_quiet}
use Rattle.check_fun.proofs.Growth.{instances_steady}
use Rattle.check_fun.proofs.laws.asking_again.Goals as goal

pub returns-clause-steady : goal.returns-clause-steady
returns-clause-steady c = instances_steady

pub returns-clause-continues : goal.returns-clause-continues
returns-clause-continues c = λ words funs d e sc need wants cx counts h.
    continues (instances words funs) (instances_steady words funs) d (expr e sc need wants cx) ((expr_quiet e sc need wants).runs cx) counts h
