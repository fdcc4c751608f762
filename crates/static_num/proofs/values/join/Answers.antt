use Rattle.std.proofs.Common.{◌∙◌, to_z-of_z, SFits, w64, arith}
use Rattle.std.specs.Int.{IsNonZero}
use Rattle.static_num.proofs.Range.{checked, divided}
use Rattle.static_num.proofs.values.join.Goals as goal

pub returns-in-Add : goal.returns-in-Add
returns-in-Add c =
    let x_fits : SFits w64 c.args.x = c.ranges.x in
    let y_fits : SFits w64 c.args.y = c.ranges.y in
    rw c.in-Add.is (simp to_z-of_z at (c.ok_or.ensures.value ∙ checked _ _ c.checked_add.ensures))

pub returns-in-Sub : goal.returns-in-Sub
returns-in-Sub c =
    let x_fits : SFits w64 c.args.x = c.ranges.x in
    let y_fits : SFits w64 c.args.y = c.ranges.y in
    rw c.in-Sub.is (simp to_z-of_z at (c.ok_or-in-Sub.ensures.value ∙ checked _ _ c.checked_sub.ensures))

pub returns-in-Mul : goal.returns-in-Mul
returns-in-Mul c =
    let x_fits : SFits w64 c.args.x = c.ranges.x in
    let y_fits : SFits w64 c.args.y = c.ranges.y in
    rw c.in-Mul.is (simp to_z-of_z at (c.ok_or-in-Mul.ensures.value ∙ checked _ _ c.checked_mul.ensures))

pub returns-else-y-eq0 : goal.returns-else-y-eq0
returns-else-y-eq0 c =
    let x_fits : SFits w64 c.args.x = c.ranges.x in
    let y_fits : SFits w64 c.args.y = c.ranges.y in
    let y_is : IsNonZero w64 c.args.y = omega (arith, c.if-y-eq0.false) in
    rw c.in-Div.is (c.ok_or-else-y-eq0.ensures.value ∙ divided _ c.args.x c.args.y (simp to_z-of_z at c.checked_div.ensures) y_is)
