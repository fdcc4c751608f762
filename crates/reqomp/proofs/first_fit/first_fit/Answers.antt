use Rattle.std.proofs.Common.{arith}
use Rattle.reqomp.proofs.Widths.{least_width}
use Rattle.reqomp.proofs.Turns.{at_first, found_width, wider}
use Rattle.reqomp.proofs.first_fit.first_fit.Goals as goal

pub try_levels-requires-clause-none : goal.try_levels-requires-clause-none
try_levels-requires-clause-none c =
    wider c.args.flat.now c.args.budget 0 (at_first c.args.flat.now c.args.budget) c.in_ok-zero.zero c.in_ok-zero.ensures.plan (omega arith)

pub try_levels-requires-clause-least : goal.try_levels-requires-clause-least
try_levels-requires-clause-least c =
    let f = c.args.flat.now in
    (least_width f).first 0 c.in_ok-zero.zero.width (least_width f).start (found_width f 0 c.in_ok-zero.zero c.in_ok-zero.ensures.plan)
