use Rattle.check_fun.proofs.Concluding.{fails_nothing, runs_nothing}
use Rattle.check_fun.proofs.body.nothing.Goals as goal

pub returns-in-Ok-clause-runs : goal.returns-in-Ok-clause-runs
returns-in-Ok-clause-runs c check d = runs_nothing check c.args.library.now c.args.at c.args.cx.now d c.new.result c.new.ensures (c.in-Ok.ensures.runs check c.args.cx.now d)

pub returns-in-Err-clause-fails : goal.returns-in-Err-clause-fails
returns-in-Err-clause-fails c check d = fails_nothing check c.args.library.now c.args.at c.args.cx.now d c.in-Err.fault (c.in-Err.ensures.fails check c.args.cx.now d)
