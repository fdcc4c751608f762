-- Qubits that are taken in turn.
use Rattle.std.specs.Prelude.{◌≡◌, ℕ, ◌<◌, Bool, true, false, List, [], ◌∷◌, length, get_or, set}

-- each in turn is there and still free
abbrev pub AreNew : List Bool → List ℕ → Type 0
AreNew free [] = Unit {0}
AreNew free (q ∷ qs) = (q < length free) × (get_or free q false ≡ true) × AreNew (set free q false) qs
