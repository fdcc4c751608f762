-- Which circuits and bits have no table.
use Rattle.std.specs.Prelude.{ℕ, ◌==◌, nat_lt, Bool, not, if◌then◌else◌, List, length, sum_by, Option, Some, None}
use Rattle.silq_io.specs.declared.limit.LimitKind.TheVariants.{Qubits, HGates}
use Rattle.gate_core.specs.declared.gate.OneKind.{OneKind}
use Rattle.gate_core.specs.declared.gate.OneKind.TheVariants.{Id, X, Y, Z, H, S, Sdg, T, Tdg}
use Rattle.gate_core.specs.declared.gate.PlainGate.{PlainGate}
use Rattle.gate_core.specs.declared.gate.PlainGate.TheVariants.{One as PlainOne, Cx as PlainCx, Cz as PlainCz, Ccx as PlainCcx}
use Rattle.gate_core.specs.declared.gate.Gate.{Gate}
use Rattle.gate_core.specs.declared.gate.Gate.TheVariants.{One, Cx, Cz, Ccx, Measure, If}
use Rattle.gate_core.specs.Circuit.{CircuitForm}
use Rattle.amp_run.specs.declared.fault.RunFault.{RunFault}
use Rattle.amp_run.specs.declared.fault.RunFault.TheVariants.{Bits, Limit}

-- how many Hadamard gates a statement holds
abbrev pub h_of_kind : OneKind → ℕ
h_of_kind Id = 0
h_of_kind X = 0
h_of_kind Y = 0
h_of_kind Z = 0
h_of_kind H = 1
h_of_kind S = 0
h_of_kind Sdg = 0
h_of_kind T = 0
h_of_kind Tdg = 0

abbrev pub h_in_plain : PlainGate → ℕ
h_in_plain (PlainOne kind q) = h_of_kind kind
h_in_plain (PlainCx c t) = 0
h_in_plain (PlainCz c t) = 0
h_in_plain (PlainCcx a b t) = 0

abbrev pub h_gates_in : Gate → ℕ
h_gates_in (One kind q) = h_of_kind kind
h_gates_in (Cx c t) = 0
h_gates_in (Cz c t) = 0
h_gates_in (Ccx a b t) = 0
h_gates_in (Measure q bit) = 0
h_gates_in (If bit value gate) = h_in_plain gate

-- how many Hadamard gates statements have, those under an `if` included
abbrev pub h_gates : List Gate → ℕ
h_gates gates = sum_by h_gates_in gates

-- the fault of a circuit with these input qubits and bits: the lengths first, then the limits
abbrev pub fault_of : CircuitForm → List ℕ → List Bool → List Bool → Option RunFault
fault_of circuit qubits input outcome =
    if not (length input == length qubits) then Some (Bits (length input) (length qubits))
    else if not (length outcome == circuit.bits) then Some (Bits (length outcome) circuit.bits)
    else if nat_lt 20 circuit.qubits then Some (Limit (record { which = Qubits; count = 21 }))
    else if nat_lt 50 (h_gates circuit.gates) then Some (Limit (record { which = HGates; count = 51 }))
    else None
