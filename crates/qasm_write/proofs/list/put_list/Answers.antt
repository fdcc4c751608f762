use Rattle.std.proofs.lemmas.Result.{on_err_weaker}
use Rattle.std.proofs.Common.{◌++◌}
use Rattle.std.specs.Prelude.{codes}
use Rattle.silq_io.proofs.Added.{breaks_front, breaks_rest, on_err_from}
use Rattle.qasm_write.specs.Written.{qubit_texts}
use Rattle.qasm_write.proofs.Parts.{list_front, list_parts, broke_first, broke_second}
use Rattle.qasm_write.proofs.list.put_list.Goals as goal

pub returns-in_err-put_pieces-clause-broken : goal.returns-in_err-put_pieces-clause-broken
returns-in_err-put_pieces-clause-broken g c = on_err_from c.from_residual.result
    (broke_first _ _ (list_front c.args.kind.now c.args.number) (qubit_texts c.args.list.now ++ codes "\n") _
    (list_parts c.args.kind.now c.args.number c.args.list.now) c.in_err-put_pieces.ensures.broken)

pub returns-in_err-put_qubits-clause-broken : goal.returns-in_err-put_qubits-clause-broken
returns-in_err-put_qubits-clause-broken g c = on_err_from c.from_residual-in_err-put_qubits.result
    (broke_second _ _ _ (list_front c.args.kind.now c.args.number) (qubit_texts c.args.list.now ++ codes "\n") _
    (list_parts c.args.kind.now c.args.number c.args.list.now) c.in_ok-put_pieces.ensures.ok
    (breaks_front _ _ (qubit_texts c.args.list.now) (codes "\n") (rw c.as_slice.ensures at c.in_err-put_qubits.ensures.broken)))

pub returns-clause-broken : goal.returns-clause-broken
returns-clause-broken g c = on_err_weaker c.put_all.result
    (λ h. broke_second _ _ _ (list_front c.args.kind.now c.args.number) (qubit_texts c.args.list.now ++ codes "\n") _
    (list_parts c.args.kind.now c.args.number c.args.list.now) c.in_ok-put_pieces.ensures.ok
    (breaks_rest _ _ _ (qubit_texts c.args.list.now) (codes "\n") (rw c.as_slice.ensures at c.in_ok-put_qubits.ensures.ok) h))
    c.put_all.ensures.broken
