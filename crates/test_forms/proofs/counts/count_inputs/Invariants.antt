use Rattle.std.proofs.Common.{◌≡◌}
use Rattle.flat_mean.specs.Path.{inputs_before}
use Rattle.test_forms.proofs.counts.count_inputs.Given as goal

abbrev pub invariant-loop-i : goal.invariant-loop-i
invariant-loop-i l = l.count ≡ inputs_before l.flat.wires l.i
