-- Files and a sink that never fail.
use Rattle.std.specs.Prelude.{ℕ, ◌+◌, ◌-◌, ◌^◌, ◌==◌, if◌then◌else◌, List, ◌++◌, length, take, min, Option, Some, None}

-- the bytes under every name, and those not yet taken
pub record SureStore : Type 0 where
  pub bytes : List ℕ
  pub left : List ℕ

-- the bytes under a name, those not yet taken, and the count of its faults: the same for every name
abbrev pub sure_held : SureStore → List ℕ → Option (List ℕ)
sure_held store name = Some store.bytes

abbrev pub sure_left : SureStore → List ℕ → Option (List ℕ)
sure_left store name = Some store.left

abbrev pub sure_faults : SureStore → List ℕ → ℕ
sure_faults store name = 0

-- the bytes that fitted, how many the row holds, and how many bytes did not fit: up to the greatest u64
pub record SureRow : Type 0 where
  pub bytes : List ℕ
  pub room : ℕ
  pub rest : ℕ

-- the bytes taken so far, told as long as all fitted
abbrev pub fitted : SureRow → Option (List ℕ)
fitted row = if row.rest == 0 then Some row.bytes else None

-- no put fails
abbrev pub row_faults : SureRow → ℕ
row_faults row = 0

-- after `put`: what fits was kept, and the rest counted
abbrev pub poured : SureRow → List ℕ → SureRow
poured row bytes = record row {
  bytes = row.bytes ++ take (row.room - length row.bytes) bytes;
  rest = min (row.rest + (length bytes - (row.room - length row.bytes))) (2 ^ 64 - 1);
}
