use Rattle.std.proofs.Common.{arith}
use Rattle.silq_io.proofs.Added.{on_err_from}
use Rattle.qasm_write.proofs.Parts.{next_list, put_more, put_broke}
use Rattle.qasm_write.proofs.list.put_lists.Goals as goal

pub returns-in_err-put_list-clause-broken : goal.returns-in_err-put_list-clause-broken
returns-in_err-put_list-clause-broken g c =
    on_err_from c.from_residual.result
    (put_broke _ _ _ _ _ _
    (next_list _ _ _ c.args.kind.now c.args.lists.now c.loop-number.number c.index-lists-number.result c.index-lists-number.is
    c.loop-number-test.true c.loop-number.invariant.part)
    c.in_err-put_list.ensures.broken)

pub loop-number-preserved : goal.loop-number-preserved
loop-number-preserved g c = record {
  part = put_more _ _ _ _ _ _
      (next_list _ _ _ c.args.kind.now c.args.lists.now c.loop-number.number c.index-lists-number.result c.index-lists-number.is
      c.loop-number-test.true c.loop-number.invariant.part)
      c.in_ok-put_list.ensures.ok;
  counted = omega (arith, c.loop-number.invariant.counted, c.put_list.ensures.count);
}
