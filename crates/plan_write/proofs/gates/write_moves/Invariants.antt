-- What is left of the moves may come, and what comes behind is the lines of their gates.
use Rattle.std.proofs.Common.{◌≡◌, ◌≤◌, false, drop}
use Rattle.qubit_alloc.specs.Place.{Place}
use Rattle.qubit_alloc.specs.State.{IsMadeFor, Tells, progress_of}
use Rattle.plan_gates.specs.PlanCircuit.{gates_of_plan}
use Rattle.plan_gates.proofs.Loops.{GoesOn}
use Rattle.qasm_write.specs.Written.{gate_lines}
use Rattle.qasm_write.proofs.Parts.{IsPartPut}
use Rattle.plan_write.proofs.Lines.{lines_left}
use Rattle.plan_write.proofs.gates.write_moves.Given as goal

abbrev pub invariant-loop-mv : goal.invariant-loop-mv
invariant-loop-mv g l =
    let told = g.S.Sink.put_so_far in
    let count = g.S.Sink.faults in
    record {
      same : l.writer.out.ghost_name ≡ l.fn.writer.out.ghost_name;
      made : IsMadeFor l.flat l.placer;
      going : l.placer.finished ≡ false;
      goes_on : GoesOn l.flat (progress_of l.placer) (drop l.mv-index l.moves) l.placer.width;
      place : Place;
      tells : Tells l.flat l.placer place;
      part : IsPartPut (told l.fn.writer.out.now) (told l.writer.out.now) (lines_left l.flat (progress_of l.placer) place (drop l.mv-index l.moves)) (gate_lines (gates_of_plan l.flat l.moves));
      counted : count l.fn.writer.out.now ≤ count l.writer.out.now;
    }
