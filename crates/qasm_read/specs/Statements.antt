-- What an item that is not refused does.
use Rattle.std.specs.Prelude.{ℕ, true, List, [], ◌∷◌, ◌++◌, Option, Some, None, option_map, slice_get, drop, filter_map, if◌then◌else◌}
use Rattle.silq_lex.specs.Kinds.{number_of}
use Rattle.gate_core.specs.declared.gate.PlainGate.{PlainGate}
use Rattle.gate_core.specs.declared.gate.PlainGate.TheVariants.{One as PlainOne, Cx as PlainCx, Cz as PlainCz, Ccx as PlainCcx}
use Rattle.gate_core.specs.declared.gate.Gate.{Gate}
use Rattle.gate_core.specs.declared.gate.Gate.TheVariants.{Measure, If}
use Rattle.gate_core.specs.Local.{as_gate}
use Rattle.qasm_tokens.specs.declared.kind.Kind.{Kind}
use Rattle.qasm_tokens.specs.declared.kind.Kind.TheVariants as k
use Rattle.qasm_tokens.specs.Tokens.{Token}
use Rattle.qasm_tokens.specs.Table.{same_kind}
use Rattle.qasm_read.specs.Registers.{Register, bits_of}
use Rattle.qasm_read.specs.declared.registers.Bits.{Bits}
use Rattle.qasm_read.specs.declared.operand.Index.{Index}
use Rattle.qasm_read.specs.declared.operand.Index.TheVariants.{Bare, Open, At}
use Rattle.qasm_read.specs.State.{State}
use Rattle.qasm_read.specs.Refusals.{Operand, operands, bit_named}

-- a gate by the kind of its name and its qubits
abbrev pub plain_of : Kind → List ℕ → Option PlainGate
plain_of (k.One one) (q ∷ []) = Some (PlainOne one q)
plain_of k.Cx (c ∷ t ∷ []) = Some (PlainCx c t)
plain_of k.Cz (c ∷ t ∷ []) = Some (PlainCz c t)
plain_of k.Ccx (a ∷ b ∷ t ∷ []) = Some (PlainCcx a b t)
plain_of _ _ = None

-- the gate that a name and what stands behind it spell
abbrev pub plain_in : State → List Token → Option PlainGate
plain_in s [] = None
plain_in s (name ∷ ts) = plain_of name.kind (filter_map (λ o. bit_named s.qubits o) (operands ts))

abbrev pub measure_from : Option ℕ → Option ℕ → Option Gate
measure_from None c = None
measure_from (Some q) None = None
measure_from (Some q) (Some c) = Some (Measure q c)

abbrev pub measure_of : State → List Operand → Option Gate
measure_of s (q ∷ c ∷ []) = measure_from (bit_named s.qubits q) (bit_named s.bits c)
measure_of s _ = None

abbrev pub if_from : Option Bits → Option ℕ → Option PlainGate → Option Gate
if_from (Some b) (Some value) (Some g) = Some (If b.first value g)
if_from _ _ _ = None

-- the number that a token of the kind `Number` spells
abbrev pub value_of : Option Token → Option ℕ
value_of None = None
value_of (Some t) = if same_kind k.Number t.kind then Some (number_of t.text) else None

abbrev pub bits_named : State → Option Token → Option Bits
bits_named s None = None
bits_named s (Some name) = bits_of s.bits name.text

-- behind an `if` stand `(`, a name, `==`, a number, `)` and a gate
abbrev pub if_of : State → List Token → Option Gate
if_of s ts = if_from (bits_named s (slice_get ts 1)) (value_of (slice_get ts 3)) (plain_in s (drop 5 ts))

abbrev pub with_gate : State → Option Gate → State
with_gate s None = s
with_gate s (Some g) = record s { gates = s.gates ++ g ∷ [] }

abbrev pub sized : Token → Index → List Register
sized name Bare = []
sized name Open = []
sized name (At at n) = record { name = name.text; size = n } ∷ []

abbrev pub declared_by : List Operand → List Register
declared_by [] = []
declared_by (o ∷ os) = sized o.name o.index

abbrev pub after_by : State → Token → List Token → Kind → State
after_by s first ts k.Include = record s { included = true }
after_by s first ts k.Qreg = record s { qubits = s.qubits ++ declared_by (operands ts) }
after_by s first ts k.Creg = record s { bits = s.bits ++ declared_by (operands ts) }
after_by s first ts k.Measure = with_gate s (measure_of s (operands ts))
after_by s first ts k.If = with_gate s (if_of s ts)
after_by s first ts (k.One one) = with_gate s (option_map as_gate (plain_in s (first ∷ ts)))
after_by s first ts k.Cx = with_gate s (option_map as_gate (plain_in s (first ∷ ts)))
after_by s first ts k.Cz = with_gate s (option_map as_gate (plain_in s (first ∷ ts)))
after_by s first ts k.Ccx = with_gate s (option_map as_gate (plain_in s (first ∷ ts)))
after_by s first ts _ = s

-- the state after an item
abbrev pub after : State → List Token → State
after s [] = s
after s (first ∷ ts) = after_by s first ts first.kind
