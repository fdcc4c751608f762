use Rattle.std.proofs.Common.{ℕ, arith, ap, ◌∙◌, get_or, ◌-◌, length-set}
use Rattle.std.proofs.lemmas.List.{length-replicate}
use Rattle.silq_print.specs.Ways.{greater}
use Rattle.silq_print.proofs.Depths.{longer_start, longer_next}
use Rattle.silq_print.proofs.depth.longer.Goals as goal

pub loop-signs-init : goal.loop-signs-init
loop-signs-init c = (λ s l. longer_start c.args.lefts.now c.args.right s l, omega arith, length-replicate {A = ℕ} 65 65)

pub loop-signs-preserved : goal.loop-signs-preserved
loop-signs-preserved c = rw c.from-in-loop-signs.ensures (
  λ s l. longer_next c.args.lefts.now c.loop-signs.depths c.args.right c.loop-signs.signs c.greater.result c.loop-signs.invariant.1 (omega (arith, c.loop-signs.invariant.2, c.loop-signs-test.true)) c.loop-signs.invariant.0
      (c.greater.ensures ∙ ap (λ k. greater (get_or c.args.lefts.now k 0) c.behind.result) c.from.ensures ∙ ap (greater (get_or c.args.lefts.now (c.loop-signs.signs - 1) 0)) c.behind.ensures) s l,
  omega (arith, c.loop-signs.invariant.1),
  length-set _ _ _ ∙ c.loop-signs.invariant.2,
)

pub returns-clause-at : goal.returns-clause-at
returns-clause-at c = λ s l. c.loop-signs.invariant.0 s (omega (arith, l, c.loop-signs-test.false))
