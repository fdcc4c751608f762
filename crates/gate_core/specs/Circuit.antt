-- Circuits as contracts see them, and which statements may be added.
use Rattle.std.specs.Prelude.{ℕ, List, [], ◌∷◌, ◌++◌, All, Contains, ◌↔◌, ◌⊎◌}
use Rattle.gate_core.specs.declared.gate.Gate.{Gate}
use Rattle.gate_core.specs.declared.gate.Gate.TheVariants.{One, Cx, Cz, Ccx, Measure, If}
use Rattle.gate_core.specs.Local.{AllBelow, AllDiffer, gate_qubits}

-- a circuit: how many qubits and classical bits it has, and its statements in order
pub record CircuitForm : Type 0 where
  pub qubits : ℕ
  pub bits : ℕ
  pub gates : List Gate

-- the qubits of a statement
abbrev pub qubits_of : Gate → List ℕ
qubits_of (One kind q) = q ∷ []
qubits_of (Cx c t) = c ∷ t ∷ []
qubits_of (Cz c t) = c ∷ t ∷ []
qubits_of (Ccx a b t) = a ∷ b ∷ t ∷ []
qubits_of (Measure q bit) = q ∷ []
qubits_of (If bit value gate) = gate_qubits gate

-- the classical bits of a statement
abbrev pub bits_of : Gate → List ℕ
bits_of (One kind q) = []
bits_of (Cx c t) = []
bits_of (Cz c t) = []
bits_of (Ccx a b t) = []
bits_of (Measure q bit) = bit ∷ []
bits_of (If bit value gate) = bit ∷ []

-- the bits that a statement measures, and those that a list of statements measures, in order
abbrev pub measured_by : Gate → List ℕ
measured_by (One kind q) = []
measured_by (Cx c t) = []
measured_by (Cz c t) = []
measured_by (Ccx a b t) = []
measured_by (Measure q bit) = bit ∷ []
measured_by (If bit value gate) = []

abbrev pub measured_bits : List Gate → List ℕ
measured_bits [] = []
measured_bits (g ∷ gs) = measured_by g ++ measured_bits gs

-- qubits and bits are in range, and the qubits differ
pub record GateFits (qubits bits : ℕ) (g : Gate) : Type 0 where
  pub qubits_in_range : AllBelow qubits (qubits_of g)
  pub qubits_differ : AllDiffer (qubits_of g)
  pub bits_in_range : AllBelow bits (bits_of g)

-- a statement measures no bit that these measure
abbrev pub MeasuresNew : List Gate → Gate → Type 0
MeasuresNew gates (One kind q) = Unit {0}
MeasuresNew gates (Cx c t) = Unit {0}
MeasuresNew gates (Cz c t) = Unit {0}
MeasuresNew gates (Ccx a b t) = Unit {0}
MeasuresNew gates (Measure q bit) = ¬ Contains (measured_bits gates) bit
MeasuresNew gates (If bit value gate) = Unit {0}

-- a statement may come next in a circuit
pub record Accepts (c : CircuitForm) (g : Gate) : Type 0 where
  pub fits : GateFits c.qubits c.bits g
  pub measures_new : MeasuresNew c.gates g

-- each statement fits, and no bit is measured twice
pub record IsSound (qubits bits : ℕ) (gates : List Gate) : Type 0 where
  pub each_fits : All (GateFits qubits bits) gates
  pub measured_once : AllDiffer (measured_bits gates)

-- a list of numbers with those of bs added, in whatever order
pub record AddsAll (old new bs : List ℕ) : Type 0 where
  pub each : (b : ℕ) → Contains new b ↔ Contains old b ⊎ Contains bs b

-- what a circuit's fields keep: the statements are sound, and `measured` has the bits that they measure
pub record IsKept (qubits bits : ℕ) (gates : List Gate) (measured : List ℕ) : Type 0 where
  pub sound : IsSound qubits bits gates
  pub index : (b : ℕ) → Contains measured b ↔ Contains (measured_bits gates) b
