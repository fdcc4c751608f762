use Rattle.std.proofs.Common.{◌^◌, ◌≤◌, ◌<◌, arith}
use Rattle.std.proofs.Math.Nat.{pow-le-pow_right}
use Rattle.std.proofs.lemmas.Bool.Decides.{nat_tests}
use Rattle.check_expr.proofs.values.is_below_power.Goals as goal

pub returns-then-bits-ge64 : goal.returns-then-bits-ge64
returns-then-bits-ge64 c =
    let more : 2 ^ 64 ≤ 2 ^ c.args.bits = pow-le-pow_right {n = 2} (omega arith) {i = 64} (omega arith) in
    let less : c.args.n < 2 ^ 64 = omega arith in
    grind (arith, nat_tests)
