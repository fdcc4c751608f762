use Rattle.std.proofs.Common.{arith}
use Rattle.silq_io.proofs.Added.{on_err_from}
use Rattle.qasm_write.proofs.Parts.{next_qubit, put_more, put_broke}
use Rattle.qasm_write.proofs.list.put_qubits.Goals as goal

pub returns-in_err-put_pieces-clause-broken : goal.returns-in_err-put_pieces-clause-broken
returns-in_err-put_pieces-clause-broken g c =
    on_err_from c.from_residual.result
    (put_broke _ _ _ _ _ _
    (next_qubit _ _ _ c.args.qubits.now c.loop-qubit.qubit-index 0 c.loop-qubit-test.true c.loop-qubit.invariant.part)
    c.in_err-put_pieces.ensures.broken)

pub loop-qubit-preserved : goal.loop-qubit-preserved
loop-qubit-preserved g c = record {
  part = put_more _ _ _ _ _ _
      (next_qubit _ _ _ c.args.qubits.now c.loop-qubit.qubit-index 0 c.loop-qubit-test.true c.loop-qubit.invariant.part)
      c.in_ok-put_pieces.ensures.ok;
  counted = omega (arith, c.loop-qubit.invariant.counted, c.put_pieces.ensures.count);
}
