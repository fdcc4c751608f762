use Rattle.std.proofs.Common.{◌≤◌, drop}
use Rattle.qasm_write.proofs.Parts.{IsPartPut}
use Rattle.silqc.specs.Note.{places_text}
use Rattle.silqc.proofs.status.put_places.Given as goal

-- what comes behind is the vertices that are left
abbrev pub invariant-loop-place : goal.invariant-loop-place
invariant-loop-place g l =
    let told = g.N.Sink.put_so_far in
    let count = g.N.Sink.faults in
    record {
      part : IsPartPut (told l.fn.notes) (told l.notes) (places_text (drop l.place-index l.cycle)) (places_text l.cycle);
      counted : count l.fn.notes ≤ count l.notes;
    }
