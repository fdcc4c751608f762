use Rattle.std.proofs.Common.{◌≤◌, drop}
use Rattle.qasm_write.specs.Written.{list_lines}
use Rattle.qasm_write.proofs.Parts.{IsPartPut}
use Rattle.qasm_write.proofs.list.put_lists.Given as goal

-- what comes behind is the lines of the lists that are left
abbrev pub invariant-loop-number : goal.invariant-loop-number
invariant-loop-number g l =
    let told = g.S.Sink.put_so_far in
    let count = g.S.Sink.faults in
    record { part : IsPartPut (told l.fn.out) (told l.out) (list_lines l.kind l.number (drop l.number l.lists)) (list_lines l.kind 0 l.lists); counted : count l.fn.out ≤ count l.out }
