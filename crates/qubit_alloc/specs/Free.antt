-- The free qubits.
use Rattle.std.specs.Prelude.{ℕ, List}

-- some numbers, in no particular order, and for how many there is room
pub record FreeList : Type 0 where
  pub items : List ℕ
  pub room : ℕ
