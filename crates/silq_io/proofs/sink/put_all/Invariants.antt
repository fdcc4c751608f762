use Rattle.std.proofs.Common.{length, take, ◌-◌, ◌≤◌}
use Rattle.silq_io.specs.Sinks.{Adds}
use Rattle.silq_io.proofs.sink.put_all.Given as goal

-- a front is put
abbrev pub invariant-loop-done : goal.invariant-loop-done
invariant-loop-done g l =
    let told = g.S.Sink.put_so_far in
    let count = g.S.Sink.faults in
    record { within : l.done ≤ length l.bytes; put : Adds (told l.fn.out) (told l.out) (take l.done l.bytes); counted : count l.fn.out ≤ count l.out }

abbrev pub decreases-loop-done : goal.decreases-loop-done
decreases-loop-done g l = length l.bytes - l.done
