use Rattle.std.proofs.Common.{◌≡◌, ◌++◌, flat_map, drop}
use Rattle.silq_mean.specs.Value.{bits_of}
use Rattle.silq_run.proofs.term.Term.bits.Given as goal

abbrev pub invariant-loop-value : goal.invariant-loop-value
invariant-loop-value l = l.bits ++ flat_map bits_of (drop l.value-index l.value-items) ≡ flat_map bits_of l.value-items
