-- What is left to take of a file.
use Rattle.std.specs.Prelude.{◌≡◌, ℕ, ◌≤◌, List, [], ◌++◌, take, drop, length, Option, Some, None}

-- Where the file's bytes are told, all of them are left.
abbrev pub Opens : Option (List ℕ) → Option (List ℕ) → Type 0
Opens None left = Unit {0}
Opens (Some bytes) left = left ≡ Some bytes

-- Where it is told what was left: a front of n bytes of it stands at the front of the buffer, and the rest is left.
abbrev pub Takes : Option (List ℕ) → Option (List ℕ) → List ℕ → List ℕ → ℕ → Type 0
Takes None after old new n = Unit {0}
Takes (Some before) after old new n = (n ≤ length before) × (after ≡ Some (drop n before)) × (new ≡ take n before ++ drop n old)

-- Where it is told what is left, it is nothing.
abbrev pub IsSpent : Option (List ℕ) → Type 0
IsSpent None = Unit {0}
IsSpent (Some left) = left ≡ []
