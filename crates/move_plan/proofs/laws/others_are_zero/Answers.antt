use Rattle.move_plan.proofs.AtEnd.{others_are_zero}
use Rattle.move_plan.proofs.laws.others_are_zero.Goals as goal

pub returns : goal.returns
returns c = others_are_zero
