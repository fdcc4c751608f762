use Rattle.std.proofs.Common.{◌≡◌, ◌≤◌, drop}
use Rattle.qasm_write.specs.Written.{gate_lines}
use Rattle.qasm_write.proofs.Parts.{IsPartPut}
use Rattle.plan_write.proofs.gates.write_gates.Given as goal

-- what comes behind is the lines of the gates that are left
abbrev pub invariant-loop-next : goal.invariant-loop-next
invariant-loop-next g l =
    let told = g.S.Sink.put_so_far in
    let count = g.S.Sink.faults in
    record {
      same : l.writer.out.ghost_name ≡ l.fn.writer.out.ghost_name;
      part : IsPartPut (told l.fn.writer.out.now) (told l.writer.out.now) (gate_lines (drop l.next-index l.gates)) (gate_lines l.gates);
      counted : count l.fn.writer.out.now ≤ count l.writer.out.now;
    }
