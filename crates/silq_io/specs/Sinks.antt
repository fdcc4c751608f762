-- What a sink has taken.
use Rattle.std.specs.Prelude.{◌≡◌, ℕ, ◌<◌, List, ◌++◌, take, length, Option, Some, None}

-- Where it is told what was put, it was told before, and these bytes were added.
abbrev pub Adds : Option (List ℕ) → Option (List ℕ) → List ℕ → Type 0
Adds old None bytes = Unit {0}
Adds old (Some new) bytes = (before : List ℕ) × (old ≡ Some before) × (new ≡ before ++ bytes)

-- A proper front of a text was put.
abbrev pub Breaks : Option (List ℕ) → Option (List ℕ) → List ℕ → Type 0
Breaks old new text = (n : ℕ) × (n < length text) × Adds old new (take n text)
