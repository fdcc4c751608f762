use Rattle.std.proofs.Common.{arith, get_or}
use Rattle.silq_print.proofs.Depths.{least_start, least_next, least_end, lesser_most}
use Rattle.silq_print.proofs.depth.least.Goals as goal

pub loop-depth-init : goal.loop-depth-init
loop-depth-init c = (least_start c.args.depths.now, omega arith)

pub loop-depth-preserved : goal.loop-depth-preserved
loop-depth-preserved c = rw c.lesser-low.ensures (
  least_next c.args.depths.now c.loop-depth.depth-index c.loop-depth.low _ (omega (arith, c.told-depths, c.loop-depth-test.true)) c.loop-depth.invariant.0,
  lesser_most c.loop-depth.low (get_or c.args.depths.now c.loop-depth.depth-index 0) c.loop-depth.invariant.1,
)

pub returns-clause-value : goal.returns-clause-value
returns-clause-value c = least_end c.args.depths.now c.loop-depth.depth-index c.loop-depth.low _ (omega (arith, c.told-depths, c.loop-depth-test.false)) c.loop-depth.invariant.1 c.loop-depth.invariant.0
