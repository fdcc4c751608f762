use Rattle.std.proofs.Common.{◌≤◌, ◌-◌}
use Rattle.qasm_write.specs.Written.{outcome_lines}
use Rattle.qasm_write.proofs.Parts.{IsPartPut}
use Rattle.qasm_write.proofs.list.put_outcomes.Given as goal

-- what comes behind is the lines of the outcomes that are left
abbrev pub invariant-loop-outcome : goal.invariant-loop-outcome
invariant-loop-outcome g l =
    let told = g.S.Sink.put_so_far in
    let count = g.S.Sink.faults in
    record { part : IsPartPut (told l.fn.out) (told l.out) (outcome_lines l.outcome (l.outcomes - l.outcome)) (outcome_lines 0 l.outcomes); counted : count l.fn.out ≤ count l.out }
