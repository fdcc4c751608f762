use Rattle.std.proofs.Common.{[], ◌∷◌}
use Rattle.std.proofs.lemmas.Result.{on_err_weaker}
use Rattle.silq_io.proofs.Added.{breaks_rest}
use Rattle.silq_print.specs.Printed.{token_text, blank_behind}
use Rattle.silq_print.proofs.printer.put_token.Goals as goal

pub returns-clause-broken : goal.returns-clause-broken
returns-clause-broken g c = on_err_weaker c.put_all.result
    (λ h. breaks_rest _ _ _ (token_text c.args.names.now c.args.token) (blank_behind c.args.token ∷ []) c.in_ok-put_text.ensures.ok h)
    (rw c.blank.ensures at c.put_all.ensures.broken)
