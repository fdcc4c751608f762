use Rattle.std.proofs.Common.{◌≡◌}
use Rattle.flat_mean.specs.Path.{choices_at}
use Rattle.test_forms.proofs.counts.count_hadamards.Given as goal

abbrev pub invariant-loop-i : goal.invariant-loop-i
invariant-loop-i l = l.count ≡ choices_at l.flat.steps l.i
