use Rattle.std.proofs.Common.{◌≡◌, false, length, replicate, drop}
use Rattle.gate_core.specs.Meaning.{placed}
use Rattle.amp_run.proofs.start.start.Given as goal

-- the bits that are left give the whole
abbrev pub invariant-loop-i : goal.invariant-loop-i
invariant-loop-i l = record {
  value : placed (drop l.i l.qubits) (drop l.i l.input) l.bits ≡ placed l.qubits l.input (replicate l.n false);
  width : length l.bits ≡ l.n;
}
