-- Qubits that no line has named before, by the sets that the program keeps.
use Rattle.std.specs.Prelude.{◌≡◌, ◌↔◌, ◌⊎◌, ℕ, Bool, true, false, List, [], ◌∷◌, Contains}
use Rattle.gate_core.specs.Circuit.{AddsAll}
use Rattle.qasm_read.specs.Lines.{are_new}

-- a qubit that is neither among those seen nor among those of its line is put among the latter; or it is in one of them
abbrev pub PutsNew : Bool → List ℕ → List ℕ → ℕ → List ℕ → Type 0
PutsNew true seen old q new = (¬ Contains seen q) × (¬ Contains old q) × AddsAll old new (q ∷ [])
PutsNew false seen old q new = Contains seen q ⊎ Contains old q

-- whether these qubits are new, where the set has the qubits seen
abbrev pub TellsNew : List ℕ → List ℕ → Bool → Type 0
TellsNew keys qubits new = (seen : List ℕ) → ((q : ℕ) → Contains keys q ↔ Contains seen q) → new ≡ are_new seen qubits
