use Rattle.std.proofs.Common.{drop}
use Rattle.amp_run.specs.Inputs.{AreNew}
use Rattle.amp_run.proofs.ins.are_new.Given as goal

-- the qubits that are left decide
abbrev pub invariant-loop-q : goal.invariant-loop-q
invariant-loop-q l = (AreNew l.free (drop l.q-index l.qubits) → AreNew l.fn.free l.qubits) × (AreNew l.fn.free l.qubits → AreNew l.free (drop l.q-index l.qubits))
