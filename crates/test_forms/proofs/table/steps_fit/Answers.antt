use Rattle.std.proofs.Common.{false, refl, sym, ◌∙◌}
use Rattle.std.proofs.lemmas.Bool.{both_ways}
use Rattle.test_forms.specs.Table.{wire_forms_of}
use Rattle.test_forms.proofs.Fits.{next_step_fits, more_steps_fit}
use Rattle.test_forms.proofs.table.steps_fit.Goals as goal

pub returns-then-not-step_fits : goal.returns-then-not-step_fits
returns-then-not-step_fits c = (
  (λ f. absurd (both_ways false refl f)),
  (λ all. sym c.if-not-step_fits.true ∙ c.step_fits.ensures.1 (next_step_fits (wire_forms_of c.args.wires.now) c.args.steps.now c.loop-i.i _ c.loop-i-test.true all)),
)

pub loop-i-preserved : goal.loop-i-preserved
loop-i-preserved c = more_steps_fit (wire_forms_of c.args.wires.now) c.args.steps.now c.loop-i.i _ c.loop-i-test.true c.loop-i.invariant (c.step_fits.ensures.0 c.if-not-step_fits.false)
