use Rattle.std.proofs.Common.{◌≡◌}
use Rattle.static_num.specs.Angle.{greatest_divisor}
use Rattle.static_num.proofs.fraction.common_divisor.Given as goal

abbrev pub invariant-steps : goal.invariant-steps
invariant-steps l = greatest_divisor l.x l.y ≡ greatest_divisor l.fn.a l.fn.b

abbrev pub decreases-steps : goal.decreases-steps
decreases-steps l = l.y
