use Rattle.std.proofs.Common.{◌∙◌, [], ap, get_or, Bor, List, ℕ}
use Rattle.cli_words.specs.Job.{amps_job}
use Rattle.cli_words.proofs.Firsts.{amps_are, is_file, three_words}
use Rattle.cli_words.proofs.job.amps_job.Goals as goal

pub returns-in_ok-outcome-in-len3-clause-ok : goal.returns-in_ok-outcome-in-len3-clause-ok
returns-in_ok-outcome-in-len3-clause-ok c =
    let none : Bor (List ℕ) = record { ref_ptr = (0, 0); now = [] } in
    let list = c.args.args.now in
    ap amps_job (three_words (λ s. s.now) list none c.in-len3.len_at_least c.in-len3.len_below)
    ∙ amps_are (get_or list 0 none).now (get_or list 1 none).now (get_or list 2 none).now c.in_ok-bits-in-len3.bits.items c.in_ok-outcome-in-len3.outcome.items
    (is_file _ _ c.is_empty.ensures c.if-is_empty.false) c.in_ok-bits-in-len3.ensures.ok c.in_ok-outcome-in-len3.ensures.ok
