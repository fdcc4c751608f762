use Rattle.std.proofs.Common.{ap, arith, refl, sym, subst, ◌∙◌}
use Rattle.move_plan.specs.Live.{width}
use Rattle.move_plan.specs.Progress.{IsPlan}
use Rattle.reqomp.proofs.LevelZero.{level_zero}
use Rattle.reqomp.proofs.Turns.{zero_moves}
use Rattle.reqomp.proofs.first_fit.plan_level_zero.Goals as goal

pub width-width-requires-clause-valid : goal.width-width-requires-clause-valid
width-width-requires-clause-valid c =
    let f = c.args.flat.now in
    let l = zero_moves f c.steps-steps.ensures.sound c.args.circuit.now c.requires.circuit c.args.ids.now c.requires.order c.in_ok-moves.moves c.in_ok-moves.ensures in
    subst (IsPlan f) (sym c.as_slice.ensures) l.valid

pub returns-clause-plan : goal.returns-clause-plan
returns-clause-plan c =
    let f = c.args.flat.now in
    let l = zero_moves f c.steps-steps.ensures.sound c.args.circuit.now c.requires.circuit c.args.ids.now c.requires.order c.in_ok-moves.moves c.in_ok-moves.ensures in
    let few = (level_zero f c.steps-steps.ensures.sound).few c.in_ok-moves.moves l in
    record { at = refl; is_level = l; few = omega arith; wide = c.width-width.ensures.told ∙ ap (width f) c.as_slice.ensures }
