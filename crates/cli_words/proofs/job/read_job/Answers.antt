use Rattle.std.proofs.Common.{map}
use Rattle.cli_words.proofs.Jobs.{unreadable}
use Rattle.cli_words.proofs.job.read_job.Goals as goal

pub returns-in-Err-clause-err : goal.returns-in-Err-clause-err
returns-in-Err-clause-err c = λ e. unreadable (map (λ s. s.now) c.args.words.now) (c.in-Err.ensures.err (c.word_fault.ensures e))
