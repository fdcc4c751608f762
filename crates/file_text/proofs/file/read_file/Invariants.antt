use Rattle.std.proofs.Common.{◌≡◌, ◌≢◌, ℕ, ◌≤◌, ◌+◌, ◌-◌, List, IsSome, vec_len}
use Rattle.file_text.specs.Reading.{IsPartRead}
use Rattle.file_text.proofs.file.read_file.Given as goal

-- a front was read, and no other count rose
abbrev pub invariant-loop-files : goal.invariant-loop-files
invariant-loop-files g l =
    let held = g.F.Files.held in
    let count = g.F.Files.faults in
    record {
      part : IsPartRead (held l.fn.files l.name) (g.F.Files.left l.files l.name) l.bytes.items;
      within : vec_len l.bytes ≤ l.limit + 1;
      same_bytes : (other : List ℕ) → held l.files other ≡ held l.fn.files other;
      counted : (other : List ℕ) → count l.fn.files other ≤ count l.files other;
      others_stay : (other : List ℕ) → other ≢ l.name → IsSome (held l.fn.files other) → count l.files other ≡ count l.fn.files other;
    }

abbrev pub decreases-loop-files : goal.decreases-loop-files
decreases-loop-files g l = l.limit + 1 - vec_len l.bytes
