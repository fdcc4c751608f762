use Rattle.std.proofs.Common.{◌<◌, ◌^◌, arith}
use Rattle.cli_words.proofs.Firsts.{below_power}
use Rattle.cli_words.proofs.job.read_number.Goals as goal

pub overflow_mul-value : goal.overflow_mul-value
overflow_mul-value c =
    let few : c.loop-digit.value < 10 ^ 17 =
    below_power c.loop-digit.value c.loop-digit.digit-index 17 c.loop-digit.invariant.small
    (omega (arith, c.requires, c.if-digits-most.false, c.loop-digit-test.true)) in
    omega (arith, few)

pub overflow_add-value : goal.overflow_add-value
overflow_add-value c =
    let few : c.loop-digit.value < 10 ^ 17 =
    below_power c.loop-digit.value c.loop-digit.digit-index 17 c.loop-digit.invariant.small
    (omega (arith, c.requires, c.if-digits-most.false, c.loop-digit-test.true)) in
    omega (arith, few, c.from.ensures)

pub returns-clause-small : goal.returns-clause-small
returns-clause-small c = below_power c.loop-digit.value c.loop-digit.digit-index 18 c.loop-digit.invariant.small c.loop-digit.invariant.within
