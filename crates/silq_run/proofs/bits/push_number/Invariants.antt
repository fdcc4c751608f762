use Rattle.std.proofs.Common.{◌≡◌, ℕ, ◌+◌, ◌++◌}
use Rattle.silq_mean.specs.Value.{low_bits}
use Rattle.silq_run.proofs.bits.push_number.Given as goal

abbrev pub invariant-loop : goal.invariant-loop
invariant-loop l = (more : ℕ) → more + l.counter ≡ l.width → l.bits ++ low_bits more l.rest ≡ l.initial.bits ++ low_bits l.width l.number
