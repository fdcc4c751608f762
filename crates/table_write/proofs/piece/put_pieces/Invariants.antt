use Rattle.std.proofs.Common.{◌≤◌, drop}
use Rattle.qasm_write.proofs.Parts.{IsPartPut}
use Rattle.table_write.specs.Lines.{pieces_text}
use Rattle.table_write.proofs.piece.put_pieces.Given as goal

-- what comes behind is the text of those that are left
abbrev pub invariant-loop-piece : goal.invariant-loop-piece
invariant-loop-piece g l =
    let told = g.S.Sink.put_so_far in
    let count = g.S.Sink.faults in
    record { part : IsPartPut (told l.fn.out) (told l.out) (pieces_text (drop l.piece-index l.pieces)) (pieces_text l.pieces); counted : count l.fn.out ≤ count l.out }
