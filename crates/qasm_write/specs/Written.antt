-- The written text of a circuit, in OpenQASM 2.0.
use Rattle.std.specs.Prelude.{ℕ, zero, suc, List, [], ◌∷◌, ◌++◌, codes, decimal}
use Rattle.gate_core.specs.declared.gate.OneKind.{OneKind}
use Rattle.gate_core.specs.declared.gate.OneKind.TheVariants.{Id, X, Y, Z, H, S, Sdg, T, Tdg}
use Rattle.gate_core.specs.declared.gate.PlainGate.{PlainGate}
use Rattle.gate_core.specs.declared.gate.PlainGate.TheVariants.{One as PlainOne, Cx as PlainCx, Cz as PlainCz, Ccx as PlainCcx}
use Rattle.gate_core.specs.declared.gate.Gate.{Gate}
use Rattle.gate_core.specs.declared.gate.Gate.TheVariants.{One, Cx, Cz, Ccx, Measure, If}

-- `q[2]`
abbrev pub qubit_text : ℕ → List ℕ
qubit_text q = codes "q[" ++ (decimal q ++ codes "]")

abbrev pub kind_text : OneKind → List ℕ
kind_text Id = codes "id"
kind_text X = codes "x"
kind_text Y = codes "y"
kind_text Z = codes "z"
kind_text H = codes "h"
kind_text S = codes "s"
kind_text Sdg = codes "sdg"
kind_text T = codes "t"
kind_text Tdg = codes "tdg"

-- `cx q[0],q[2];` and a line feed
abbrev pub plain_line : PlainGate → List ℕ
plain_line (PlainOne kind q) = kind_text kind ++ (codes " " ++ (qubit_text q ++ codes ";\n"))
plain_line (PlainCx c t) = codes "cx " ++ (qubit_text c ++ (codes "," ++ (qubit_text t ++ codes ";\n")))
plain_line (PlainCz c t) = codes "cz " ++ (qubit_text c ++ (codes "," ++ (qubit_text t ++ codes ";\n")))
plain_line (PlainCcx a b t) =
    codes "ccx " ++ (qubit_text a ++ (codes "," ++ (qubit_text b ++ (codes "," ++ (qubit_text t ++ codes ";\n")))))

-- a gate, `measure q[0] -> m0[0];` or `if (m0==1) x q[0];`, and a line feed
abbrev pub gate_line : Gate → List ℕ
gate_line (One kind q) = plain_line (PlainOne kind q)
gate_line (Cx c t) = plain_line (PlainCx c t)
gate_line (Cz c t) = plain_line (PlainCz c t)
gate_line (Ccx a b t) = plain_line (PlainCcx a b t)
gate_line (Measure q bit) = codes "measure " ++ (qubit_text q ++ (codes " -> m" ++ (decimal bit ++ codes "[0];\n")))
gate_line (If bit value gate) = codes "if (m" ++ (decimal bit ++ (codes "==" ++ (decimal value ++ (codes ") " ++ plain_line gate))))

abbrev pub gate_lines : List Gate → List ℕ
gate_lines [] = []
gate_lines (gate ∷ gates) = gate_line gate ++ gate_lines gates

-- `qreg q[2];`, where there is a qubit
abbrev pub qubits_line : ℕ → List ℕ
qubits_line zero = []
qubits_line (suc n) = codes "qreg q[" ++ (decimal (suc n) ++ codes "];\n")

-- `creg m0[1];` and a line feed
abbrev pub outcome_line : ℕ → List ℕ
outcome_line bit = codes "creg m" ++ (decimal bit ++ codes "[1];\n")

-- a line for each of so many outcome bits, from this one on
abbrev pub outcome_lines : ℕ → ℕ → List ℕ
outcome_lines first zero = []
outcome_lines first (suc n) = outcome_line first ++ outcome_lines (suc first) n

abbrev pub qubit_texts : List ℕ → List ℕ
qubit_texts [] = []
qubit_texts (q ∷ qs) = codes " " ++ (qubit_text q ++ qubit_texts qs)

-- `// silqc in 0 q[0] q[1]` and a line feed
abbrev pub list_line : List ℕ → ℕ → List ℕ → List ℕ
list_line kind number qs =
    codes "// silqc " ++ (kind ++ (codes " " ++ (decimal number ++ (qubit_texts qs ++ codes "\n"))))

-- a line for each list, numbered from this one on
abbrev pub list_lines : List ℕ → ℕ → List (List ℕ) → List ℕ
list_lines kind number [] = []
list_lines kind number (qs ∷ lists) = list_line kind number qs ++ list_lines kind (suc number) lists

-- the two first lines, and the register of the qubits
abbrev pub start_text : ℕ → List ℕ
start_text qubits = codes "OPENQASM 2.0;\ninclude \"qelib1.inc\";\n" ++ qubits_line qubits

-- what stands before the gates: the registers, and the qubits of each parameter
abbrev pub head_text : ℕ → ℕ → List (List ℕ) → List ℕ
head_text qubits outcomes ins = start_text qubits ++ (outcome_lines 0 outcomes ++ list_lines (codes "in") 0 ins)

-- what stands behind the gates: the qubits of each returned value
abbrev pub out_text : List (List ℕ) → List ℕ
out_text outs = list_lines (codes "out") 0 outs

-- the text of a circuit
abbrev pub written_text : ℕ → ℕ → List (List ℕ) → List Gate → List (List ℕ) → List ℕ
written_text qubits outcomes ins gates outs = head_text qubits outcomes ins ++ (gate_lines gates ++ out_text outs)
