-- Registers of one kind, of qubits or of classical bits, in order of declaration, and how their bits are numbered.
use Rattle.std.specs.Prelude.{ℕ, ◌+◌, Bool, nat_lt, if◌then◌else◌, List, [], ◌∷◌, Option, Some, None, option_and_then, bytes_eq, sum_by}
use Rattle.std.specs.List.{list_any}
use Rattle.qasm_read.specs.declared.registers.Bits.{Bits}

pub record Register : Type 0 where
  pub name : List ℕ
  pub size : ℕ

abbrev pub has : List Register → List ℕ → Bool
has registers name = list_any (λ r. bytes_eq r.name name) registers

-- how many bits there are
abbrev pub width : List Register → ℕ
width registers = sum_by (λ r. r.size) registers

-- the bits of a register, where `first` is the first bit of these
abbrev pub bits_from : ℕ → List Register → List ℕ → Option Bits
bits_from first [] name = None
bits_from first (r ∷ rs) name =
    if bytes_eq r.name name then Some (record { first = first; size = r.size }) else bits_from (first + r.size) rs name

abbrev pub bits_of : List Register → List ℕ → Option Bits
bits_of registers name = bits_from 0 registers name

abbrev pub bit_in : Bits → ℕ → Option ℕ
bit_in b i = if nat_lt i b.size then Some (b.first + i) else None

-- the bit with this index in this register, where both are there
abbrev pub bit_of : List Register → List ℕ → ℕ → Option ℕ
bit_of registers name i = option_and_then (λ b. bit_in b i) (bits_of registers name)
