use Rattle.std.proofs.Common.{◌≡◌, ◌≤◌, take}
use Rattle.amp_run.specs.Refusal.{h_gates}
use Rattle.amp_run.proofs.fault.count_h_gates.Given as goal

-- the gates of the statements so far
abbrev pub invariant-loop-i : goal.invariant-loop-i
invariant-loop-i l = record { counted : l.count ≡ h_gates (take l.i l.circuit.gates); few : l.count ≤ l.i }
