use Rattle.gate_emit.proofs.Circuits.{others_stay}
use Rattle.gate_emit.proofs.laws.moves_leave_other_qubits.Goals as goal

pub returns : goal.returns
returns c = others_stay
