use Rattle.silq_tree.specs.Arena.{expr_at}
use Rattle.check_scope.specs.Walk.{Counts}
use Rattle.check_expr.proofs.Quiet.{q_suits}
use Rattle.check_fun.proofs.Stepped.{runs_quiet, fails_quiet}
use Rattle.check_fun.proofs.plain.suits_now.Goals as goal

pub returns-in-Ok-clause-runs : goal.returns-in-Ok-clause-runs
returns-in-Ok-clause-runs c = λ check s cs. let counts : Counts = cs in runs_quiet check _ _ _ counts _ (q_suits (expr_at c.args.library.now.nodes c.args.e) _ c.args.value) (c.in-Ok.ensures.reads counts.met s)

pub returns-in-Err-clause-fails : goal.returns-in-Err-clause-fails
returns-in-Err-clause-fails c = λ check s cs. let counts : Counts = cs in rw c.fault_of.ensures (fails_quiet check _ _ _ counts _ (q_suits (expr_at c.args.library.now.nodes c.args.e) _ c.args.value) (c.in-Err.ensures.stops counts.met s))
