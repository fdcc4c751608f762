use Rattle.std.proofs.lemmas.Result.{on_err_weaker}
use Rattle.std.proofs.Common.{◌++◌}
use Rattle.std.specs.Prelude.{decimal, codes}
use Rattle.silq_io.proofs.Added.{breaks_front, breaks_rest, on_err_from}
use Rattle.qasm_write.proofs.piece.put_qubit.Goals as goal

pub returns-in_err-put_number-clause-broken : goal.returns-in_err-put_number-clause-broken
returns-in_err-put_number-clause-broken g c = on_err_from c.from_residual-in_err-put_number.result
    (breaks_rest _ _ _ (codes "q[") (decimal c.args.qubit ++ codes "]") c.in_ok-put_all.ensures.ok
    (breaks_front _ _ (decimal c.args.qubit) (codes "]") (rw c.from.ensures at c.in_err-put_number.ensures.broken)))

pub returns-clause-broken : goal.returns-clause-broken
returns-clause-broken g c = on_err_weaker c.put_all-2.result
    (λ h. breaks_rest _ _ _ (codes "q[") (decimal c.args.qubit ++ codes "]") c.in_ok-put_all.ensures.ok
    (breaks_rest _ _ _ (decimal c.args.qubit) (codes "]") (rw c.from.ensures at c.in_ok-put_number.ensures.ok) h))
    c.put_all-2.ensures.broken
