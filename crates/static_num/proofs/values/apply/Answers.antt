use Rattle.std.proofs.Common.{◌∙◌, to_z-of_z, SFits, w64}
use Rattle.static_num.proofs.Range.{checked}
use Rattle.static_num.proofs.values.apply.Goals as goal

pub returns-in-Neg : goal.returns-in-Neg
returns-in-Neg c =
    let x_fits : SFits w64 c.args.x = c.ranges.x in
    rw c.in-Neg.is (simp to_z-of_z at (c.ok_or.ensures.value ∙ checked _ _ c.checked_neg.ensures))
