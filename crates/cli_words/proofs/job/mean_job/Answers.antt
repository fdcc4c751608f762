use Rattle.std.proofs.Common.{◌∙◌, ◌-◌, [], List, ℕ, Bor, ap, drop, take, map, length, get_or}
use Rattle.cli_words.specs.Job.{mean, mean_job}
use Rattle.cli_words.proofs.Firsts.{four_and_rest, mean_is}
use Rattle.cli_words.proofs.job.mean_job.Goals as goal

pub returns-in-Ok-clause-ok : goal.returns-in-Ok-clause-ok
returns-in-Ok-clause-ok c =
    let none : Bor (List ℕ) = record { ref_ptr = (0, 0); now = [] } in
    let list = c.args.args.now in
    let bits = c.in_ok-bits-in-len4-up.bits.items in
    let outcome = c.in_ok-outcome-in-len4-up.outcome.items in
    ap mean_job (four_and_rest (λ s. s.now) list none c.in-len4-up.len_at_least)
    ∙ mean_is (get_or list 0 none).now (get_or list 1 none).now (get_or list 2 none).now (get_or list 3 none).now
    (map (λ s. s.now) (take (length list - 4) (drop 4 list))) bits outcome c.in_ok-bits-in-len4-up.ensures.ok c.in_ok-outcome-in-len4-up.ensures.ok
    ∙ c.in-Ok.ensures.ok (λ f e s. mean f e bits outcome s)

pub returns-in-Err-clause-err : goal.returns-in-Err-clause-err
returns-in-Err-clause-err c = λ refused.
    let none : Bor (List ℕ) = record { ref_ptr = (0, 0); now = [] } in
    let list = c.args.args.now in
    let bits = c.in_ok-bits-in-len4-up.bits.items in
    let outcome = c.in_ok-outcome-in-len4-up.outcome.items in
    ap mean_job (four_and_rest (λ s. s.now) list none c.in-len4-up.len_at_least)
    ∙ mean_is (get_or list 0 none).now (get_or list 1 none).now (get_or list 2 none).now (get_or list 3 none).now
    (map (λ s. s.now) (take (length list - 4) (drop 4 list))) bits outcome c.in_ok-bits-in-len4-up.ensures.ok c.in_ok-outcome-in-len4-up.ensures.ok
    ∙ c.in-Err.ensures.err refused (λ f e s. mean f e bits outcome s)
