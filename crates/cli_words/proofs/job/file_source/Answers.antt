use Rattle.std.proofs.Common.{◌≡◌, [], List, ℕ, ℤ, IfOk, IfErr, Some, None, Bor, subst, sym}
use Rattle.cli_words.specs.Parts.{Text}
use Rattle.cli_words.specs.Job as asked
use Rattle.cli_words.specs.Job.{file_job}
use Rattle.cli_words.specs.declared.WordFault.TheVariants.{NotAJob}
use Rattle.cli_words.proofs.Firsts.{two_and_rest}
use Rattle.cli_words.proofs.job.file_source.Goals as goal

pub returns-in-len2-up-clause-ok : goal.returns-in-len2-up-clause-ok
returns-in-len2-up-clause-ok c =
    let none : Bor (List ℕ) = record { ref_ptr = (0, 0); now = [] } in
    subst (λ (ws : List Text). IfOk c.named_source.result (λ s. (make : Text → Text → List ℤ → asked.Job)
    → file_job make ws ≡ Some (make s.file.now s.entry.now s.statics.items)))
    (sym (two_and_rest (λ s. s.now) c.args.args.now none c.in-len2-up.len_at_least)) c.named_source.ensures.ok

pub returns-in-len2-up-clause-err : goal.returns-in-len2-up-clause-err
returns-in-len2-up-clause-err c =
    let none : Bor (List ℕ) = record { ref_ptr = (0, 0); now = [] } in
    subst (λ (ws : List Text). IfErr c.named_source.result (λ e. e ≡ NotAJob → (make : Text → Text → List ℤ → asked.Job) → file_job make ws ≡ None))
    (sym (two_and_rest (λ s. s.now) c.args.args.now none c.in-len2-up.len_at_least)) c.named_source.ensures.err
