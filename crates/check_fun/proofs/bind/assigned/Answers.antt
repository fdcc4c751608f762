use Rattle.check_fun.proofs.Stepped.{passed}
use Rattle.check_fun.proofs.Binding.{fails_may, fails_lost, fails_count, runs_assigned}
use Rattle.check_fun.proofs.bind.assigned.Goals as goal

pub returns-in_err-may_bind-clause-fails : goal.returns-in_err-may_bind-clause-fails
returns-in_err-may_bind-clause-fails c = λ l check cs. passed _ _ _ c.from_residual.ensures.1 (fails_may check l c.args.at c.args.names.now c.args.values.now c.args.cx.now cs _ (c.in_err-may_bind.ensures.fails check cs))

pub returns-in_err-bind_all-clause-fails : goal.returns-in_err-bind_all-clause-fails
returns-in_err-bind_all-clause-fails c = λ l check cs. passed _ _ _ c.from_residual-in_err-bind_all.ensures.1 (fails_lost check l c.args.at c.args.names.now c.args.values.now c.args.cx.now cs _ (c.in_ok-may_bind.ensures.runs check cs) c.in_err-bind_all.ensures.lost)

pub returns-in_err-obeyed-clause-fails : goal.returns-in_err-obeyed-clause-fails
returns-in_err-obeyed-clause-fails c = λ l check cs. passed _ _ _ c.from_residual-in_err-obeyed.ensures.1 (fails_count check l c.args.at c.args.names.now c.args.values.now c.args.cx.now cs _ (c.in_ok-may_bind.ensures.runs check cs) c.in_ok-bind_all.ensures.kept (c.in_err-obeyed.ensures.fails check c.args.cx.now cs))

pub returns-clause-runs : goal.returns-clause-runs
returns-clause-runs c = λ l check cs. runs_assigned check l c.args.at c.args.names.now c.args.values.now c.args.cx.now cs c.bind_all.new.cx (c.in_ok-may_bind.ensures.runs check cs) c.in_ok-bind_all.ensures.kept (c.in_ok-obeyed.ensures.runs check c.args.cx.now cs) c.in_ok-bind_all.ensures.bound
