use Rattle.std.specs.Prelude.{[]}
use Rattle.check_scope.specs.Walk.{Counts}
use Rattle.check_expr.proofs.Quiet.{q_place}
use Rattle.check_fun.proofs.Stepped.{runs_quiet, fresh_vars}
use Rattle.check_fun.proofs.plain.fresh_now.Goals as goal

pub returns-in-Ok-clause-runs : goal.returns-in-Ok-clause-runs
returns-in-Ok-clause-runs c = λ check cs. let counts : Counts = cs in runs_quiet check _ _ _ counts _ q_place (c.in-Ok.ensures.reads counts.met)

pub returns-in-Ok-clause-vars : goal.returns-in-Ok-clause-vars
returns-in-Ok-clause-vars c = fresh_vars _ _ _ (c.in-Ok.ensures.reads [])
