use Rattle.std.proofs.Common.{◌≡◌, ℕ, ◌+◌, ◌++◌}
use Rattle.silq_mean.specs.Value.{numbers_of}
use Rattle.silq_run.proofs.start.numbers_of.Given as goal

abbrev pub invariant-loop : goal.invariant-loop
invariant-loop l = (more : ℕ) → more + l.counter ≡ l.count → l.numbers ++ numbers_of more l.width l.rest ≡ numbers_of l.count l.width l.bits
