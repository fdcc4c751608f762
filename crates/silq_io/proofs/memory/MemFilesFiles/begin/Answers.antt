use Rattle.silq_io.proofs.Steps.{held-begun, opens-begun, counts-begun, rose-begun, others-begun, on_ok_by, on_err_by}
use Rattle.silq_io.proofs.memory.MemFilesFiles.begin.Goals as goal

pub returns-clause-held : goal.returns-clause-held
returns-clause-held c other = rw c.open.ensures.after (held-begun c.args.self.now c.args.name.now other)

pub returns-clause-opened : goal.returns-clause-opened
returns-clause-opened c = rw c.open.ensures.after (on_ok_by _ _ c.open.ensures.answer (λ can. opens-begun c.args.self.now c.args.name.now can))

pub returns-clause-counts : goal.returns-clause-counts
returns-clause-counts c other = rw c.open.ensures.after (counts-begun c.args.self.now c.args.name.now other)

pub returns-clause-failed : goal.returns-clause-failed
returns-clause-failed c = rw c.open.ensures.after (on_err_by _ _ c.open.ensures.answer (λ cannot. rose-begun c.args.self.now c.args.name.now cannot))

pub returns-clause-others : goal.returns-clause-others
returns-clause-others c other ne told = rw c.open.ensures.after (others-begun c.args.self.now c.args.name.now other ne told)
