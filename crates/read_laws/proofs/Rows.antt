-- Three texts that are read back, by computing.
use Rattle.std.proofs.Common.{◌≡◌, [], ◌∷◌, Ok, refl}
use Rattle.std.specs.Str.{chars}
use Rattle.std.specs.Fmt.{digits}
use lib.Utf8.{encode}
use Rattle.gate_core.specs.declared.gate.OneKind.TheVariants as one
use Rattle.gate_core.specs.declared.gate.PlainGate.TheVariants.{One as PlainOne, Ccx as PlainCcx}
use Rattle.gate_core.specs.declared.gate.Gate.TheVariants.{One, Cx, Cz, Ccx, Measure, If}
use Rattle.qasm_tokens.specs.Tokens.{marks_within}
use Rattle.qasm_tokens.specs.Items.{reach, items_of}
use Rattle.qasm_read.specs.State.{ReadForm}
use Rattle.qasm_read.specs.Text.{reading, read_items}
use Rattle.read_laws.specs.Laws.{text_of}

empty : ReadForm
empty = record { circuit = record { qubits = 0; bits = 0; gates = [] }; ins = []; outs = [] }

empty_back : reading (text_of empty) ≡ Ok empty
unfolding empty chars encode digits marks_within reach items_of read_items
empty_back = refl

measured : ReadForm
measured = record {
  circuit = record { qubits = 12; bits = 2; gates = One one.H 10 ∷ Cx 10 0 ∷ Measure 10 1 ∷ If 1 1 (PlainOne one.X 3) ∷ [] };
  ins = (0 ∷ 11 ∷ []) ∷ [];
  outs = [];
}

measured_back : reading (text_of measured) ≡ Ok measured
unfolding measured chars encode digits marks_within reach items_of read_items
measured_back = refl

lists : ReadForm
lists = record {
  circuit = record { qubits = 3; bits = 1; gates = Cz 1 2 ∷ Ccx 0 1 2 ∷ If 0 4294967295 (PlainCcx 2 1 0) ∷ Measure 0 0 ∷ [] };
  ins = (2 ∷ []) ∷ (0 ∷ 1 ∷ []) ∷ [];
  outs = (1 ∷ 0 ∷ []) ∷ (2 ∷ []) ∷ [];
}

lists_back : reading (text_of lists) ≡ Ok lists
unfolding lists chars encode digits marks_within reach items_of read_items
lists_back = refl
