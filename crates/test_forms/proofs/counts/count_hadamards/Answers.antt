use Rattle.std.proofs.Common.{◌≤◌, arith}
use Rattle.flat_mean.specs.Path.{choices_at}
use Rattle.test_forms.proofs.Fits.{few_choices}
use Rattle.test_forms.proofs.counts.count_hadamards.Goals as goal

pub overflow_add-count : goal.overflow_add-count
overflow_add-count c =
    let few : choices_at c.args.flat.now.steps c.loop-i.i ≤ c.loop-i.i = few_choices c.args.flat.now.steps c.loop-i.i in
    omega (arith, c.loop-i.invariant)
