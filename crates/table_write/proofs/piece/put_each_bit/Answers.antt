use Rattle.std.proofs.Common.{arith}
use Rattle.silq_io.proofs.Added.{on_err_from}
use Rattle.qasm_write.proofs.Parts.{put_more, put_broke}
use Rattle.table_write.proofs.Rows.{next_bit}
use Rattle.table_write.proofs.piece.put_each_bit.Goals as goal

pub returns-in_err-put_bit-clause-broken : goal.returns-in_err-put_bit-clause-broken
returns-in_err-put_bit-clause-broken g c =
    on_err_from c.from_residual.result
    (put_broke _ _ _ _ _ _
    (next_bit _ _ _ c.args.bits.now c.loop-bit.bit-index _ c.loop-bit-test.true c.loop-bit.invariant.part)
    c.in_err-put_bit.ensures.broken)

pub loop-bit-preserved : goal.loop-bit-preserved
loop-bit-preserved g c = record {
  part = put_more _ _ _ _ _ _
      (next_bit _ _ _ c.args.bits.now c.loop-bit.bit-index _ c.loop-bit-test.true c.loop-bit.invariant.part)
      c.in_ok-put_bit.ensures.ok;
  counted = omega (arith, c.loop-bit.invariant.counted, c.put_bit.ensures.count);
}
