use Rattle.std.proofs.lemmas.Result.{on_err_weaker}
use Rattle.silq_io.proofs.Added.{on_err_from}
use Rattle.qasm_write.proofs.Parts.{if_parts, if_front, broke_first, broke_second}
use Rattle.qasm_write.specs.Written.{plain_line}
use Rattle.qasm_write.proofs.line.put_if.Goals as goal

pub returns-in_err-put_pieces-clause-broken : goal.returns-in_err-put_pieces-clause-broken
returns-in_err-put_pieces-clause-broken g c = on_err_from c.from_residual.result
    (broke_first _ _ (if_front c.args.bit c.args.value) (plain_line c.args.gate) _ (if_parts c.args.bit c.args.value c.args.gate)
    (rw c.from.ensures at c.in_err-put_pieces.ensures.broken))

pub returns-clause-broken : goal.returns-clause-broken
returns-clause-broken g c = on_err_weaker c.put_plain.result
    (λ h. broke_second _ _ _ (if_front c.args.bit c.args.value) (plain_line c.args.gate) _ (if_parts c.args.bit c.args.value c.args.gate)
    (rw c.from.ensures at c.in_ok-put_pieces.ensures.ok) h)
    c.put_plain.ensures.broken
