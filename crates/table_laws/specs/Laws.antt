-- The two tables agree, as statements.
use Rattle.std.specs.Prelude.{◌≡◌, ◌≢◌, ℕ, ◌-◌, ◌≤◌, Bool, false, List, [], ◌++◌, All, map, length, replicate, Ok}
use Rattle.amp_core.specs.declared.Amp.{Amp}
use Rattle.gate_core.specs.Meaning.{joined}
use Rattle.silq_mean.specs.Table.{Job, Honest, IsMeanTable}
use Rattle.qasm_read.specs.State.{ReadForm}
use Rattle.read_laws.specs.Laws.{text_of, IsReadable}
use Rattle.plan_laws.specs.Circuits.{Spelled, IsCircuitOf}
use Rattle.circuit_table.specs.Tables.{HasTable}
use Rattle.qasm_write.specs.Written.{written_text}
use Rattle.qasm_read.specs.Text.{reading}
use Rattle.flat_form.specs.Flat.{flattened}
use Rattle.flat_form.specs.Jobs.{FineJob, EndsWell}
use Rattle.silq_compile.specs.Sources.{Source, OfAccepted, job_in}
use Rattle.silq_compile.specs.Headline.{Compiles}

-- a circuit as its text spells it
abbrev pub form_of : Spelled → ReadForm
form_of c = record {
  circuit = record { qubits = c.qubits; bits = c.outcomes; gates = c.gates };
  ins = c.ins;
  outs = c.outs;
}

-- so many zeros behind the bits of each row
abbrev pub with_zeros : ℕ → List (List Bool × Amp) → List (List Bool × Amp)
with_zeros n rows = map (λ r. (r.0 ++ replicate n false, r.1)) rows

-- The table of a circuit of a program shows the rows of the program's table, each with a 0 for each qubit that is not of a returned value.
abbrev pub TablesAgree : Type 0
TablesAgree =
    (j : Job) (c : Spelled) (input outcome : List Bool) (rows shown : List (List Bool × Amp)) (outs : ℕ)
    → IsCircuitOf j c → IsReadable (form_of c) → Honest j input → IsMeanTable j input outcome rows
    → HasTable input outcome (text_of (form_of c)) outs shown
    → (outs ≡ length (joined c.outs)) × (shown ≡ with_zeros (c.qubits - outs) rows)

-- a text is that of a circuit of a program, and is read back as it
pub record ReadsAs (j : Job) (text : List ℕ) (c : Spelled) : Type 0 where
  pub of_job : IsCircuitOf j c
  pub written : text ≡ written_text c.qubits c.outcomes c.ins c.gates c.outs
  pub readable : IsReadable (form_of c)
  pub read : reading text ≡ Ok (form_of c)

-- each parameter and each result of a program's flat form has a wire
pub record HasWires (j : Job) : Type 0 where
  pub ins : All (λ ws. ws ≢ []) (flattened j).form.ins
  pub outs : All (λ ws. ws ≢ []) (flattened j).form.outs

-- the text of a job, whose flat form has wires for all parameters and results, is read back as a circuit of the job
abbrev pub JobTextsAreReadBack : Type 0
JobTextsAreReadBack =
    (budget : ℕ) (text : List ℕ) (j : Job) → FineJob j → EndsWell j → HasWires j → Compiles budget text j → budget ≤ 100000
    → (c : Spelled) × ReadsAs j text c

-- The text of a compiled source, on at most 100,000 qubits, is read back as a circuit of what its entry means.
abbrev pub CompiledTextsAreReadBack : Type 0
CompiledTextsAreReadBack =
    (budget : ℕ) (text : List ℕ) (source : Source) → (h : OfAccepted (Compiles budget text) source) → budget ≤ 100000
    → (c : Spelled) × ReadsAs (job_in source h.checked.derivation) text c

-- what a source means for the two tables: its compiled text and its table on these bits
abbrev pub HasTextAndTable : ℕ → List ℕ → List Bool → List Bool → List (List Bool × Amp) → Job → Type 0
HasTextAndTable budget text input outcome rows j = Compiles budget text j × Honest j input × IsMeanTable j input outcome rows

-- The table of the text of a compiled program, on at most 100,000 qubits, shows the rows of the program's table, each with a 0 for each qubit
-- that is not of a returned value.
abbrev pub CompiledTablesAgree : Type 0
CompiledTablesAgree =
    (budget : ℕ) (text : List ℕ) (source : Source) (input outcome : List Bool) (rows shown : List (List Bool × Amp)) (outs : ℕ)
    → (h : OfAccepted (HasTextAndTable budget text input outcome rows) source) → budget ≤ 100000 → HasTable input outcome text outs shown
    → (c : Spelled) × ReadsAs (job_in source h.checked.derivation) text c × (outs ≡ length (joined c.outs))
    × (shown ≡ with_zeros (c.qubits - outs) rows)
