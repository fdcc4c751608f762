use Rattle.std.proofs.Common.{◌≤◌, drop}
use Rattle.qasm_write.proofs.Parts.{IsPartPut}
use Rattle.table_write.specs.Lines.{circuit_text}
use Rattle.table_write.proofs.table.put_circuit_table.Given as goal

-- what comes behind is the text of those that are left
abbrev pub invariant-loop-i : goal.invariant-loop-i
invariant-loop-i g l =
    let told = g.S.Sink.put_so_far in
    let count = g.S.Sink.faults in
    record { part : IsPartPut (told l.fn.out) (told l.out) (circuit_text l.outs (drop l.i l.table)) (circuit_text l.outs l.table); counted : count l.fn.out ≤ count l.out }
