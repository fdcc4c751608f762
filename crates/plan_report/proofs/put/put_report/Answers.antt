-- The pieces make the lines.
use Rattle.std.proofs.lemmas.Result.{on_err_weaker, on_ok_weaker}
use Rattle.qasm_write.proofs.Parts.{adds_as, breaks_as}
use Rattle.plan_report.proofs.Parts.{report_parts}
use Rattle.plan_report.proofs.put.put_report.Goals as goal

pub returns-clause-ok : goal.returns-clause-ok
returns-clause-ok g c =
    let told = rw c.from.ensures at c.put_pieces.ensures.ok in
    on_ok_weaker c.put_pieces.result (λ h. adds_as _ _ _ _ (report_parts c.args.report.now) h) (rw c.from-2.ensures at told)

pub returns-clause-broken : goal.returns-clause-broken
returns-clause-broken g c =
    let told = rw c.from.ensures at c.put_pieces.ensures.broken in
    on_err_weaker c.put_pieces.result (λ h. breaks_as _ _ _ _ (report_parts c.args.report.now) h) (rw c.from-2.ensures at told)
