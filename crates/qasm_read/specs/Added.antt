-- Which statement may be added to those so far.
use Rattle.std.specs.Prelude.{List, Option, IfSome, filter_map, option_map}
use Rattle.gate_core.specs.declared.gate.Gate.{Gate}
use Rattle.gate_core.specs.Circuit.{Accepts}
use Rattle.gate_core.specs.Local.{as_gate}
use Rattle.qasm_tokens.specs.declared.kind.Kind.{Kind}
use Rattle.qasm_tokens.specs.Tokens.{Token}
use Rattle.qasm_read.specs.Refusals.{operands, bit_named}
use Rattle.qasm_read.specs.State.{State, read_form}
use Rattle.qasm_read.specs.Statements.{plain_of}

-- a statement that the circuit so far accepts, or none
abbrev pub MayAdd : State → Option Gate → Type 0
MayAdd s gate = IfSome gate (λ g. Accepts (read_form s).circuit g)

-- the gate whose name has this kind, with the tokens behind the name
abbrev pub gate_behind : State → Kind → List Token → Option Gate
gate_behind s kind ts = option_map as_gate (plain_of kind (filter_map (λ o. bit_named s.qubits o) (operands ts)))
