use Rattle.std.proofs.lemmas.Result.{on_err_weaker, on_ok_weaker}
use Rattle.qasm_write.proofs.Parts.{adds_as, breaks_as, start_none, start_some}
use Rattle.qasm_write.proofs.list.put_start.Goals as goal

pub returns-then-width-eq0-clause-ok : goal.returns-then-width-eq0-clause-ok
returns-then-width-eq0-clause-ok g c =
    on_ok_weaker c.put_all.result (λ h. adds_as _ _ _ _ (start_none c.args.width c.if-width-eq0.true) h) c.put_all.ensures.ok

pub returns-then-width-eq0-clause-broken : goal.returns-then-width-eq0-clause-broken
returns-then-width-eq0-clause-broken g c =
    on_err_weaker c.put_all.result (λ h. breaks_as _ _ _ _ (start_none c.args.width c.if-width-eq0.true) h) c.put_all.ensures.broken

pub returns-clause-ok : goal.returns-clause-ok
returns-clause-ok g c =
    on_ok_weaker c.put_pieces.result
    (λ h. adds_as _ _ _ _ (start_some c.args.width c.if-width-eq0.false) h)
    (rw c.from.ensures at c.put_pieces.ensures.ok)

pub returns-clause-broken : goal.returns-clause-broken
returns-clause-broken g c =
    on_err_weaker c.put_pieces.result
    (λ h. breaks_as _ _ _ _ (start_some c.args.width c.if-width-eq0.false) h)
    (rw c.from.ensures at c.put_pieces.ensures.broken)
