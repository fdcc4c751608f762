use Rattle.std.proofs.Common.{◌≡◌, ◌++◌, drop}
use Rattle.silq_types.specs.Types.{scalar_bits}
use Rattle.silq_mean.specs.Value.{all_exclusive_or}
use Rattle.silq_run.proofs.updates.all_exclusive_or.Given as goal

abbrev pub invariant-loop-a : goal.invariant-loop-a
invariant-loop-a l = l.joined ++ all_exclusive_or (scalar_bits l.scalar) (drop l.a-index l.firsts) l.rest ≡ all_exclusive_or (scalar_bits l.scalar) l.firsts l.seconds
