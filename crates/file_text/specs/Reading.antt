-- What was read of a file.
use Rattle.std.specs.Prelude.{◌≡◌, ℕ, ◌+◌, ◌≤◌, List, [], ◌++◌, length, take, Option, Some, None}

-- Where the file's bytes are told: these are all of them and nothing is left, or the first of them, one more than the limit.
abbrev pub AreRead : ℕ → Option (List ℕ) → Option (List ℕ) → List ℕ → Type 0
AreRead limit None left bytes = Unit {0}
AreRead limit (Some all) left bytes = (bytes ≡ take (limit + 1) all) × (length bytes ≤ limit → left ≡ Some [])

-- Where the file's bytes are told: these were read, and what is left comes behind them.
abbrev pub IsPartRead : Option (List ℕ) → Option (List ℕ) → List ℕ → Type 0
IsPartRead None left bytes = Unit {0}
IsPartRead (Some all) left bytes = (rest : List ℕ) × (left ≡ Some rest) × (all ≡ bytes ++ rest)
