-- The exact table of what a text spells.
use Rattle.std.specs.Prelude.{◌≡◌, ℕ, Bool, List, map, length, Option, None, Some, Ok}
use Rattle.amp_core.specs.declared.Amp.{Amp}
use Rattle.sum_laws.specs.Table.{TableOf}
use Rattle.gate_core.specs.Meaning.{joined, meaning}
use Rattle.silq_io.specs.Sinks.{Adds, Breaks}
use Rattle.amp_run.specs.Refusal.{fault_of}
use Rattle.amp_run.specs.declared.fault.RunFault.{RunFault}
use Rattle.table_write.specs.Lines.{circuit_text}
use Rattle.table_write.specs.Outs.{shown_bits}
use Rattle.qasm_read.specs.State.{ReadForm}
use Rattle.qasm_read.specs.Text.{reading}

-- these rows are the exact table of what a text spells, the bits of the outs first
pub record HasTable (input outcome : List Bool) (text : List ℕ) (outs : ℕ) (rows : List (List Bool × Amp)) : Type 0 where
  pub form : ReadForm
  pub spelled : reading text ≡ Ok form
  pub allowed : fault_of form.circuit (joined form.ins) input outcome ≡ None
  pub outs_are : outs ≡ length (joined form.outs)
  pub table :
      TableOf
      (map (λ t. (shown_bits form.circuit.qubits (joined form.outs) t.0, t.1))
      (meaning form.circuit.qubits form.circuit.bits form.circuit.gates form.ins input outcome))
      rows

-- the lines of the table were put
abbrev pub PutsTable : List Bool → List Bool → Option (List ℕ) → Option (List ℕ) → List ℕ → Type 0
PutsTable input outcome old new text =
    (outs : ℕ) × (rows : List (List Bool × Amp)) × HasTable input outcome text outs rows × Adds old new (circuit_text outs rows)

-- a proper front of the lines was put
abbrev pub BreaksTable : List Bool → List Bool → Option (List ℕ) → Option (List ℕ) → List ℕ → Type 0
BreaksTable input outcome old new text =
    (outs : ℕ) × (rows : List (List Bool × Amp)) × HasTable input outcome text outs rows × Breaks old new (circuit_text outs rows)

-- a text spells a circuit that has this fault with these bits
abbrev pub HasFault : List Bool → List Bool → List ℕ → RunFault → Type 0
HasFault input outcome text f = (c : ReadForm) × (reading text ≡ Ok c) × (fault_of c.circuit (joined c.ins) input outcome ≡ Some f)
