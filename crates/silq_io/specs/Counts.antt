-- Counts of faults and of calls. A count is a u64 that never falls.
use Rattle.std.specs.Prelude.{◌≡◌, ℕ, ◌+◌, ◌-◌, ◌^◌, ◌<◌, ◌⊎◌, ◌==◌, if◌then◌else◌, Bool, List}
use Rattle.std.specs.List.{list_any}

-- the count is greater than before, or stands at the greatest u64
abbrev pub Rose : ℕ → ℕ → Type 0
Rose old new = (old < new) ⊎ (new ≡ 2 ^ 64 - 1)

-- one more, but the greatest u64 stays
abbrev pub raised : ℕ → ℕ
raised n = if n == 2 ^ 64 - 1 then n else n + 1

-- how many calls were made, and the numbers of the calls that fail, counted from 1
pub record Calls : Type 0 where
  pub made : ℕ
  pub failing : List ℕ

-- the next call is one that fails
abbrev pub next_fails : Calls → Bool
next_fails calls = list_any (λ n. n == raised calls.made) calls.failing

-- one more call was made
abbrev pub called : Calls → Calls
called calls = record calls { made = raised calls.made }
