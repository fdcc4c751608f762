use Rattle.check_scope.specs.Walk.{Counts}
use Rattle.check_expr.proofs.Quiet.{q_all_needed}
use Rattle.check_fun.proofs.Stepped.{runs_quiet, fails_quiet}
use Rattle.check_fun.proofs.plain.part_now.Goals as goal

pub returns-in-Ok-clause-runs : goal.returns-in-Ok-clause-runs
returns-in-Ok-clause-runs c = λ check cs. let counts : Counts = cs in runs_quiet check _ _ _ counts _ (q_all_needed _ _) (c.in-Ok.ensures.reads counts.met)

pub returns-in-Err-clause-fails : goal.returns-in-Err-clause-fails
returns-in-Err-clause-fails c = λ check cs. let counts : Counts = cs in rw c.fault_of.ensures (fails_quiet check _ _ _ counts _ (q_all_needed _ _) (c.in-Err.ensures.stops counts.met))
