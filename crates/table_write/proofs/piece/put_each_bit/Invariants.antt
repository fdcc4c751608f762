use Rattle.std.proofs.Common.{◌≤◌, drop}
use Rattle.qasm_write.proofs.Parts.{IsPartPut}
use Rattle.table_write.specs.Lines.{bit_texts}
use Rattle.table_write.proofs.piece.put_each_bit.Given as goal

-- what comes behind is the text of those that are left
abbrev pub invariant-loop-bit : goal.invariant-loop-bit
invariant-loop-bit g l =
    let told = g.S.Sink.put_so_far in
    let count = g.S.Sink.faults in
    record { part : IsPartPut (told l.fn.out) (told l.out) (bit_texts (drop l.bit-index l.bits)) (bit_texts l.bits); counted : count l.fn.out ≤ count l.out }
