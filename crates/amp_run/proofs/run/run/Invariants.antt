use Rattle.std.proofs.Common.{◌≡◌, false, [], ◌∷◌, length, drop, replicate}
use Rattle.amp_core.specs.Amplitude.{one}
use Rattle.gate_core.specs.Meaning.{run}
use Rattle.amp_run.proofs.Rows.{Running}
use Rattle.amp_run.proofs.run.run.Given as goal

-- the rows are those of the statements so far
abbrev pub invariant-loop-i : goal.invariant-loop-i
invariant-loop-i l = record {
  known_bits : length l.known ≡ l.circuit.bits;
  running : Running l.circuit.qubits l.outcome l.known (drop l.i l.circuit.gates) (run l.outcome (replicate l.circuit.bits false) l.circuit.gates ((l.fn.bits, one) ∷ [])) l.rows;
}
