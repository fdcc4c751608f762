use Rattle.static_num.proofs.Euclid.{quotient_above, bounded_above}
use Rattle.static_num.proofs.fraction.reduce.Goals as goal

pub returns-clause-positive : goal.returns-clause-positive
returns-clause-positive c =
    let d = c.common_divisor-divisor.ensures in
    rw c.fitting.ensures (bounded_above c.args.negative _ _ (quotient_above c.args.top c.args.bottom c.common_divisor-divisor.result c.requires d.greatest))
