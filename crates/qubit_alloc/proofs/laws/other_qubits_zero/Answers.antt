use Rattle.qubit_alloc.proofs.Circuit.{other_qubits_zero}
use Rattle.qubit_alloc.proofs.laws.other_qubits_zero.Goals as goal

pub returns : goal.returns
returns c = other_qubits_zero
