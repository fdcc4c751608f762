-- What it is for a circuit to give a program.
use Rattle.std.specs.Prelude.{◌≡◌, ℕ, ◌<◌, Bool, true, false, List, length, map, reverse, get_or}
use Rattle.amp_core.specs.Amplitude.{none, Same}
use Rattle.sum_laws.specs.Terms.{amplitude, pick}
use Rattle.gate_core.specs.declared.gate.Gate.{Gate}
use Rattle.gate_core.specs.Meaning.{meaning, joined}
use Rattle.gate_core.specs.Circuit.{IsSound}
use Rattle.gate_core.specs.Local.{Absent, AllDiffer, AllBelow}
use Rattle.silq_types.specs.Types.{shape_bits}
use Rattle.silq_mean.specs.Value.{bits_of as value_bits}
use Rattle.silq_mean.specs.Term.{Term}
use Rattle.silq_mean.specs.Effect.{outcomes}
use Rattle.silq_mean.specs.Table.{Job, total_size, start, terms, mean, outcome_of, Honest}
use Rattle.flat_form.specs.Names.{AllOf}

-- A circuit with the qubits of the parameters and of the returned values.
pub record Spelled : Type 0 where
  pub qubits : ℕ
  pub outcomes : ℕ
  pub ins : List (List ℕ)
  pub gates : List Gate
  pub outs : List (List ℕ)

-- each bit but those at these qubits is 0
abbrev pub IsZeroBut : List ℕ → List Bool → Type 0
IsZeroBut qs bits = (q : ℕ) → q < length bits → Absent q qs → get_or bits q false ≡ false

-- some bit but those at these qubits is 1
abbrev pub HasOneBut : List ℕ → List Bool → Type 0
HasOneBut qs bits = (q : ℕ) × (q < length bits) × Absent q qs × (get_or bits q false ≡ true)

-- The circuit gives, on each honest input and for each choice of the outcome bits, exactly the source's amplitudes, with every other qubit
-- at zero.
pub record GivesSource (j : Job) (circuit : Spelled) : Type 0 where
  pub amplitudes : (input outcome bits : List Bool) → length input ≡ total_size j.shapes → Honest j input → length outcome ≡ circuit.outcomes
      → length bits ≡ circuit.qubits → IsZeroBut (joined circuit.outs) bits
      → Same
      (amplitude bits (meaning circuit.qubits circuit.outcomes circuit.gates circuit.ins input outcome))
      (mean j input (outcome_of outcome) (pick (joined circuit.outs) bits))
  pub zeros : (input outcome bits : List Bool) → length input ≡ total_size j.shapes → Honest j input → length outcome ≡ circuit.outcomes
      → length bits ≡ circuit.qubits → HasOneBut (joined circuit.outs) bits
      → Same (amplitude bits (meaning circuit.qubits circuit.outcomes circuit.gates circuit.ins input outcome)) none

-- each value that a term returns has a qubit for each of its bits
abbrev pub HasBitsOf : List (List ℕ) → Term → Type 0
HasBitsOf outs t = map length outs ≡ map (λ w. length (value_bits w)) (reverse t.values)

-- The circuit is one of the program: it is well made, its lists fit the program's parameters, results and outcomes, and it gives the source.
pub record IsCircuitOf (j : Job) (circuit : Spelled) : Type 0 where
  pub sound : IsSound circuit.qubits circuit.outcomes circuit.gates
  pub inputs : AllDiffer (joined circuit.ins) × AllBelow circuit.qubits (joined circuit.ins) × (length (joined circuit.ins) ≡ total_size j.shapes)
  pub outputs : AllDiffer (joined circuit.outs) × AllBelow circuit.qubits (joined circuit.outs)
  -- each parameter has a qubit for each bit of its type
  pub of_parameters : map length circuit.ins ≡ map shape_bits j.shapes
  pub of_results : (input outcome : List Bool) → length input ≡ total_size j.shapes → AllOf (HasBitsOf circuit.outs) (terms j input (outcome_of outcome))
  -- there are as many outcome bits as the source measures
  pub of_outcomes : (input : List Bool) → length input ≡ total_size j.shapes → circuit.outcomes ≡ outcomes j.effect (start j input)
  pub gives : GivesSource j circuit
