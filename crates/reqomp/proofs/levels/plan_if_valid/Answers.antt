use Rattle.std.proofs.Common.{sym, subst}
use Rattle.std.proofs.lemmas.Bool.{both_ways}
use Rattle.move_plan.specs.Progress.{IsPlan}
use Rattle.reqomp.proofs.Widths.{level_width}
use Rattle.reqomp.proofs.levels.plan_if_valid.Goals as goal

pub returns-then-not-valid-clause-plan : goal.returns-then-not-valid-clause-plan
returns-then-not-valid-clause-plan c =
    let f = c.args.flat.now in
    let h = c.requires.moves in
    (level_width f c.args.level).not_valid h.order c.args.moves h.ready h.groups
    (λ p. both_ways c.valid.result c.if-not-valid.true (c.valid.ensures.told.1 (subst (IsPlan f) (sym c.as_slice.ensures) p)))
