use Rattle.silq_tree.specs.Arena.{expr_at}
use Rattle.check_scope.specs.State.{scope_in}
use Rattle.check_scope.specs.Walk.{Counts}
use Rattle.check_expr.proofs.Quiet.{q_names}
use Rattle.check_fun.proofs.Stepped.{runs_quiet, fails_quiet}
use Rattle.check_fun.proofs.plain.known_now.Goals as goal

pub returns-in-Ok-clause-runs : goal.returns-in-Ok-clause-runs
returns-in-Ok-clause-runs c = λ check cs. let counts : Counts = cs in runs_quiet check _ _ _ counts _ (q_names (scope_in c.args.library.now c.args.cx.now) (expr_at c.args.library.now.nodes c.args.e)) (c.in-Ok.ensures.reads counts.met)

pub returns-in-Err-clause-fails : goal.returns-in-Err-clause-fails
returns-in-Err-clause-fails c = λ check cs. let counts : Counts = cs in rw c.fault_of.ensures (fails_quiet check _ _ _ counts _ (q_names (scope_in c.args.library.now c.args.cx.now) (expr_at c.args.library.now.nodes c.args.e)) (c.in-Err.ensures.stops counts.met))
