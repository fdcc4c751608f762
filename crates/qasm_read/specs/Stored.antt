-- Registers, the circuit and named qubits as the program keeps them.
use Rattle.std.specs.Prelude.{◌≡◌, ◌↔◌, ℕ, ◌+◌, ◌<◌, ◌^◌, List, [], ◌∷◌, Contains, flat_map}
use Rattle.std.specs.Str.{chars, IsUtf8}
use denote.Bor.{Bor}
use Rattle.gate_core.specs.Circuit.{CircuitForm}
use Rattle.qasm_read.specs.declared.registers.Bits.{Bits}
use Rattle.qasm_read.specs.Registers.{Register, width}

abbrev pub register_of : Bor (List ℕ) × Bits → Register
register_of e = record { name = chars e.0.now; size = e.1.size }

abbrev pub registers_of : List (Bor (List ℕ) × Bits) → List Register
registers_of [] = []
registers_of (e ∷ es) = register_of e ∷ registers_of es

-- each register's bits follow those before it, and each name is text
abbrev pub AreInTurn : ℕ → List (Bor (List ℕ) × Bits) → Type 0
AreInTurn first [] = Unit {0}
AreInTurn first (e ∷ es) = (e.1.first ≡ first) × IsUtf8 e.0.now × AreInTurn (first + e.1.size) es

pub record IsStored (entries : List (Bor (List ℕ) × Bits)) (total : ℕ) : Type 0 where
  pub in_turn : AreInTurn 0 entries
  pub total_is : total ≡ width (registers_of entries)
  pub small : total < 2 ^ 32

-- the circuit has all the qubits and bits of the registers
pub record HasAll (circuit : CircuitForm) (qubits bits : List Register) : Type 0 where
  pub qubits_are : circuit.qubits ≡ width qubits
  pub bits_are : circuit.bits ≡ width bits

-- the set has the qubits of all the lists
pub record IsNamed (lists : List (List ℕ)) (qubits : List ℕ) : Type 0 where
  pub index : (q : ℕ) → Contains qubits q ↔ Contains (flat_map (λ l. l) lists) q
