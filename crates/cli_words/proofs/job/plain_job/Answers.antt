use Rattle.std.proofs.Common.{◌≡◌, [], List, ℕ, IfOk, IfErr, Some, None, Bor, map, subst, sym}
use Rattle.cli_words.specs.Parts.{Text}
use Rattle.cli_words.specs.Job.{plain_job}
use Rattle.cli_words.specs.Told.{told}
use Rattle.cli_words.specs.declared.WordFault.TheVariants.{NotAJob}
use Rattle.cli_words.proofs.Firsts.{first_and_rest}
use Rattle.cli_words.proofs.job.plain_job.Goals as goal

pub returns-in-len1-up-clause-ok : goal.returns-in-len1-up-clause-ok
returns-in-len1-up-clause-ok c =
    let none : Bor (List ℕ) = record { ref_ptr = (0, 0); now = [] } in
    subst (λ (ws : List Text). IfOk c.named_job.result (λ j. plain_job ws (map (λ s. s.now) c.args.budgets.now) ≡ Some (told j)))
    (sym (first_and_rest (λ s. s.now) c.args.plain.now none c.in-len1-up.len_at_least)) c.named_job.ensures.ok

pub returns-in-len1-up-clause-err : goal.returns-in-len1-up-clause-err
returns-in-len1-up-clause-err c =
    let none : Bor (List ℕ) = record { ref_ptr = (0, 0); now = [] } in
    subst (λ (ws : List Text). IfErr c.named_job.result (λ e. e ≡ NotAJob → plain_job ws (map (λ s. s.now) c.args.budgets.now) ≡ None))
    (sym (first_and_rest (λ s. s.now) c.args.plain.now none c.in-len1-up.len_at_least)) c.named_job.ensures.err
