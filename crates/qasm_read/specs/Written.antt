-- Parts of a comment line, as the program reads them.
use Rattle.std.specs.Prelude.{◌≡◌, ℕ, ◌==◌, ◌^◌, not, nat_lt, Bool, false, ◌&&◌, if◌then◌else◌, List, ◌∷◌, ◌++◌, Option, Some, None, map, codes, bytes_eq}
use Rattle.std.specs.Str.{chars}
use denote.Bor.{Bor}
use Rattle.silq_lex.specs.Runs.{run}
use Rattle.qasm_read.specs.Lines.{is_written}

-- the characters before the first c, and those behind it
pub record Cuts (c : ℕ) (text front back : List ℕ) : Type 0 where
  pub whole : text ≡ front ++ c ∷ back
  pub first : run (λ d. not (d == c)) text ≡ front

-- a number, where it has at most 64 bits
abbrev pub in_64_bits : Option ℕ → Option ℕ
in_64_bits None = None
in_64_bits (Some n) = if nat_lt n (2 ^ 64) then Some n else None

-- the characters of texts
abbrev pub texts_of : List (Bor (List ℕ)) → List (List ℕ)
texts_of texts = map (λ t. chars t.now) texts

-- whether these are the words `//` and `silqc`
abbrev pub is_marked : List ℕ → List ℕ → Bool
is_marked slashes silqc = bytes_eq slashes (codes "//") && bytes_eq silqc (codes "silqc")

-- whether these are a kind and a number
abbrev pub is_numbered : List ℕ → ℕ → List ℕ → List ℕ → Bool
is_numbered kind n word number = bytes_eq word kind && is_written number n

-- whether words begin with `//`, `silqc`, a kind and a number, and more of them follow
abbrev pub is_headed : List ℕ → ℕ → List (List ℕ) → Bool
is_headed kind n (slashes ∷ silqc ∷ word ∷ number ∷ first ∷ more) = is_marked slashes silqc && is_numbered kind n word number
is_headed kind n _ = false
