use Rattle.std.proofs.Common.{arith}
use Rattle.silq_io.proofs.Added.{on_err_from}
use Rattle.qasm_write.proofs.Parts.{put_more, put_broke}
use Rattle.table_write.proofs.Rows.{next_piece}
use Rattle.table_write.proofs.piece.put_pieces.Goals as goal

pub returns-in_err-put_piece-clause-broken : goal.returns-in_err-put_piece-clause-broken
returns-in_err-put_piece-clause-broken g c =
    on_err_from c.from_residual.result
    (put_broke _ _ _ _ _ _
    (next_piece _ _ _ c.args.pieces.now c.loop-piece.piece-index _ c.loop-piece-test.true c.loop-piece.invariant.part)
    c.in_err-put_piece.ensures.broken)

pub loop-piece-preserved : goal.loop-piece-preserved
loop-piece-preserved g c = record {
  part = put_more _ _ _ _ _ _
      (next_piece _ _ _ c.args.pieces.now c.loop-piece.piece-index _ c.loop-piece-test.true c.loop-piece.invariant.part)
      c.in_ok-put_piece.ensures.ok;
  counted = omega (arith, c.loop-piece.invariant.counted, c.put_piece.ensures.count);
}
