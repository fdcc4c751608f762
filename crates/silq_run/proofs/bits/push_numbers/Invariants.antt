use Rattle.std.proofs.Common.{◌≡◌, ◌++◌, drop}
use Rattle.std.specs.Prelude.{flat_map}
use Rattle.silq_mean.specs.Value.{low_bits}
use Rattle.silq_run.proofs.bits.push_numbers.Given as goal

abbrev pub invariant-loop-number : goal.invariant-loop-number
invariant-loop-number l = l.bits ++ flat_map (low_bits l.width) (drop l.number-index l.numbers) ≡ l.initial.bits ++ flat_map (low_bits l.width) l.numbers
