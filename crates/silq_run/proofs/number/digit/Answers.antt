use Rattle.std.proofs.Common.{arith}
use Rattle.silq_run.proofs.Digits.{digit_high}
use Rattle.silq_run.proofs.number.digit.Goals as goal

pub returns-then-place-ge64 : goal.returns-then-place-ge64
returns-then-place-ge64 c = digit_high c.args.place c.args.a (omega (arith, c.ranges.a)) (omega (arith, c.if-place-ge64.true))
