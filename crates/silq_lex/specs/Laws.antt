-- Laws of tokens.
use Rattle.std.specs.Prelude.{◌≡◌, ℕ, ◌+◌, ◌<◌, ◌≤◌, Bool, true, false, List, [], ◌∷◌, ◌++◌, Option, Some, None, length, slice_range}
use Rattle.silq_lex.specs.Tokens.{Located}

-- what was found is a front that passes the test, and no longer one does; where nothing was found, none does
abbrev pub IsLongest : (List ℕ → Bool) → List ℕ → Option (List ℕ) → Type 0
IsLongest test cs None = (front rest : List ℕ) → cs ≡ front ++ rest → test front ≡ false
IsLongest test cs (Some found) =
    ((rest : List ℕ) × (cs ≡ found ++ rest)) × (test found ≡ true)
    × ((front rest : List ℕ) → cs ≡ front ++ rest → length found < length front → test front ≡ false)

-- each text is the slice of these bytes at its start; the first starts at n or later, and each other one behind the one before it
abbrev pub AreSlices : List ℕ → ℕ → List Located → Type 0
AreSlices bytes n [] = Unit {0}
AreSlices bytes n (t ∷ ts) =
    (n ≤ t.at.start) × (slice_range bytes t.at.start (t.at.start + length t.text) ≡ t.text) × AreSlices bytes (t.at.start + length t.text) ts
