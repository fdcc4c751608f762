use Rattle.std.proofs.Common.{arith}
use Rattle.silq_mean.specs.Effect.{after}
use Rattle.silq_run.specs.Steps.{meant}
use Rattle.silq_run.proofs.Listing.{each_next}
use Rattle.silq_run.proofs.terms.step_each.Goals as goal

pub loop-term-preserved : goal.loop-term-preserved
loop-term-preserved c =
    each_next (after (meant c.args.step.now)) c.loop-term.terms c.args.terms.now c.loop-term.term-index c.term-item.result c.step.new.self
    (omega (arith, c.loop-term-test.true, c.loop-term.auto.terms)) c.loop-term.invariant c.in_ok-step.ensures
