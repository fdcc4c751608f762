use Rattle.std.proofs.Common.{◌<◌, length, arith}
use Rattle.table_write.proofs.Rows.{row_is}
use Rattle.table_write.proofs.Turned.{row_fits, turned_next}
use Rattle.table_write.proofs.outs.turned.Goals as goal

pub picked-requires : goal.picked-requires
picked-requires c =
    let l : c.loop-i.i < length c.args.table.now = (let e = c.len-i-end.ensures in let h = c.loop-i-test.true in omega arith) in
    row_fits c.args.order.now c.args.table.now c.loop-i.i _ l
    (row_is _ c.args.table.now c.loop-i.i c.row.result c.unwrap.result c.row.ensures.value c.unwrap.ensures) c.requires

pub loop-i-preserved : goal.loop-i-preserved
loop-i-preserved c =
    let l : c.loop-i.i < length c.args.table.now = (let e = c.len-i-end.ensures in let h = c.loop-i-test.true in omega arith) in
    turned_next c.args.order.now c.args.table.now c.loop-i.i _ c.in_ok-picked.field-0 c.loop-i.terms _ l
    (row_is _ c.args.table.now c.loop-i.i c.row.result c.unwrap.result c.row.ensures.value c.unwrap.ensures)
    c.loop-i.invariant c.in_ok-picked.ensures c.in_ok-push.ensures.ok
