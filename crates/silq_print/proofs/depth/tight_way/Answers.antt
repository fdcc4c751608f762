use Rattle.std.proofs.Common.{arith}
use Rattle.silq_tree.specs.Arena.{expr_at}
use Rattle.silq_print.proofs.Chosen.{found, unfound, none_next}
use Rattle.silq_print.proofs.depth.tight_way.Goals as goal

pub loop-signs-init : goal.loop-signs-init
loop-signs-init c = (λ r h l. absurd (omega (arith, h, l)), omega arith)

pub loop-signs-preserved : goal.loop-signs-preserved
loop-signs-preserved c =
    (none_next c.depths-depths.result c.least-low.result c.loop-signs.signs c.from.result c.loop-signs.invariant.0 c.from.ensures c.if-depths-from.false, omega (arith, c.loop-signs.invariant.1))

pub returns-then-depths-from : goal.returns-then-depths-from
returns-then-depths-from c =
    found (expr_at c.args.tree.now c.args.e) c.depths-depths.result c.least-low.result c.loop-signs.signs c.least-low.ensures.long c.depths-depths.ensures c.least-low.ensures.value
    c.loop-signs.invariant.1 c.loop-signs-test.true (rw c.from.ensures at c.if-depths-from.true) c.loop-signs.invariant.0

pub returns : goal.returns
returns c =
    unfound (expr_at c.args.tree.now c.args.e) c.depths-depths.result c.least-low.result c.least-low.ensures.long c.depths-depths.ensures c.least-low.ensures.value
    (λ r h l. c.loop-signs.invariant.0 r h (omega (arith, l, c.loop-signs-test.false)))
