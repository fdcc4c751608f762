use Rattle.check_fun.proofs.Counted.{runs_bind, runs_then, fails_bind, fails_then, fails_later}
use Rattle.check_fun.proofs.Stepped.{passed}
use Rattle.check_fun.proofs.forget.forget_name.Goals as goal

pub returns-in_err-target-clause-fails : goal.returns-in_err-target-clause-fails
returns-in_err-target-clause-fails c = λ check cs. passed _ _ _ c.from_residual.ensures.1 (fails_bind check _ _ c.args.cx.now cs _ (c.in_err-target.ensures.fails check cs))

pub returns-in_err-may_drop-clause-fails : goal.returns-in_err-may_drop-clause-fails
returns-in_err-may_drop-clause-fails c = λ check cs. passed _ _ _ c.from_residual-in_err-may_drop.ensures.1 (fails_later check _ _ c.args.cx.now c.args.cx.now cs cs _ _ (c.in_ok-target.ensures.runs check cs) (fails_then check _ _ c.args.cx.now cs _ (c.in_err-may_drop.ensures.fails check c.args.cx.now cs)))

pub returns-clause-runs : goal.returns-clause-runs
returns-clause-runs c = λ check cs. runs_bind check _ _ c.args.cx.now c.args.cx.now _ cs cs cs _ _ (c.in_ok-target.ensures.runs check cs) (runs_then check _ _ c.args.cx.now c.args.cx.now _ cs cs cs _ _ (c.in_ok-may_drop.ensures.runs check c.args.cx.now cs) (c.end_var.ensures check cs))
