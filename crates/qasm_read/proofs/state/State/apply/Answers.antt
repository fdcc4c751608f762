use Rattle.qasm_read.proofs.Accepted.{allowed_if, allowed_measure, allowed_plain}
use Rattle.qasm_read.proofs.Items.{allowed_qubits, allowed_bits}
use Rattle.qasm_read.proofs.state.State.apply.Goals as goal

pub declare_qubits-requires-clause-allowed : goal.declare_qubits-requires-clause-allowed
declare_qubits-requires-clause-allowed c = allowed_qubits c.args.self.now c.args.tokens.now _ c.in-len1-up.len_at_least c.in-Qreg.is c.requires.allowed

pub declare_bits-requires-clause-allowed : goal.declare_bits-requires-clause-allowed
declare_bits-requires-clause-allowed c = allowed_bits c.args.self.now c.args.tokens.now _ c.in-len1-up.len_at_least c.in-Creg.is c.requires.allowed

pub add_measure-requires-clause-accepted : goal.add_measure-requires-clause-accepted
add_measure-requires-clause-accepted c = allowed_measure c.args.self.now c.args.tokens.now _ c.in-len1-up.len_at_least c.in-Measure.is c.requires.allowed

pub add_if-requires-clause-accepted : goal.add_if-requires-clause-accepted
add_if-requires-clause-accepted c = allowed_if c.args.self.now c.args.tokens.now _ c.in-len1-up.len_at_least c.in-If.is c.requires.allowed

pub add_plain-requires-clause-accepted : goal.add_plain-requires-clause-accepted
add_plain-requires-clause-accepted c = allowed_plain c.args.self.now c.args.tokens.now _ c.in-len1-up.len_at_least c.requires.allowed
