use Rattle.std.proofs.Common.{false, refl, sym, ◌∙◌}
use Rattle.std.proofs.lemmas.Bool.{both_ways}
use Rattle.test_forms.proofs.Fits.{next_wire_fits, more_wires_fit}
use Rattle.test_forms.proofs.table.wires_fit.Goals as goal

pub returns-then-not-wire_fits : goal.returns-then-not-wire_fits
returns-then-not-wire_fits c = (
  (λ f. absurd (both_ways false refl f)),
  (λ all. sym c.if-not-wire_fits.true ∙ c.wire_fits.ensures.1 (next_wire_fits c.args.draft.now.steps c.args.wires.now c.loop-i.i _ c.loop-i-test.true all)),
)

pub loop-i-preserved : goal.loop-i-preserved
loop-i-preserved c = more_wires_fit c.args.draft.now.steps c.args.wires.now c.loop-i.i _ c.loop-i-test.true c.loop-i.invariant (c.wire_fits.ensures.0 c.if-not-wire_fits.false)
