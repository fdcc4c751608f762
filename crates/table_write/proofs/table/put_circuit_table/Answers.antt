use Rattle.std.proofs.Common.{◌<◌, length, arith}
use Rattle.silq_io.proofs.Added.{on_err_from}
use Rattle.qasm_write.proofs.Parts.{put_more, put_broke}
use Rattle.table_write.proofs.Rows.{next_circuit, row_is}
use Rattle.table_write.proofs.table.put_circuit_table.Goals as goal

pub returns-in_err-put_circuit_line-clause-broken : goal.returns-in_err-put_circuit_line-clause-broken
returns-in_err-put_circuit_line-clause-broken g c =
    let l : c.loop-i.i < length c.args.table.now = (let e = c.len-i-end.ensures in let h = c.loop-i-test.true in omega arith) in
    on_err_from c.from_residual.result
    (put_broke _ _ _ _ _ _
    (next_circuit c.args.outs _ _ _ c.args.table.now c.loop-i.i _ l (row_is _ c.args.table.now c.loop-i.i c.row.result c.unwrap.result c.row.ensures.value c.unwrap.ensures) c.loop-i.invariant.part)
    c.in_err-put_circuit_line.ensures.broken)

pub loop-i-preserved : goal.loop-i-preserved
loop-i-preserved g c =
    let l : c.loop-i.i < length c.args.table.now = (let e = c.len-i-end.ensures in let h = c.loop-i-test.true in omega arith) in
    record {
      part = put_more _ _ _ _ _ _
          (next_circuit c.args.outs _ _ _ c.args.table.now c.loop-i.i _ l (row_is _ c.args.table.now c.loop-i.i c.row.result c.unwrap.result c.row.ensures.value c.unwrap.ensures) c.loop-i.invariant.part)
          c.in_ok-put_circuit_line.ensures.ok;
      counted = omega (arith, c.loop-i.invariant.counted, c.put_circuit_line.ensures.count);
    }
