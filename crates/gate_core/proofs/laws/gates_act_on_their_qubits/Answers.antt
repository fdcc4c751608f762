use Rattle.gate_core.proofs.Embedded.{acts_on_its_qubits, plain_run-placed}
use Rattle.gate_core.proofs.laws.gates_act_on_their_qubits.Goals as goal

pub returns : goal.returns
returns c = record { of_a_gate = acts_on_its_qubits; of_gates = λ qs u gs d r b ts h. plain_run-placed qs u d r gs b ts h }
