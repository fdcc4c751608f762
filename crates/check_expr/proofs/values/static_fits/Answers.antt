use mathlib.Core.Path.{ap, ◌∙◌}
use Rattle.check_expr.specs.Expression.{fits_rule}
use Rattle.std.proofs.Common.{w64, IfOk, IfErr, subst}
use Rattle.std.proofs.lemmas.Int.{to_z-of_z}
use Rattle.check_scope.specs.Steps.{Reads, Stops}
use Rattle.check_expr.proofs.values.static_fits.Goals as goal

pub returns-clause-reads : goal.returns-clause-reads
returns-clause-reads c = λ met s. subst (λ m. IfOk c.fits_rule.result (λ u. Reads met m s u s)) (ap (λ z. fits_rule c.spot_of.result c.args.ty z) (to_z-of_z w64 c.args.z c.ranges.z) ∙ ap (λ s. fits_rule s c.args.ty c.args.z) c.spot_of.ensures) (c.fits_rule.ensures.reads met s)

pub returns-clause-stops : goal.returns-clause-stops
returns-clause-stops c = λ met s. subst (λ m. IfErr c.fits_rule.result (λ f. Stops met m s f s)) (ap (λ z. fits_rule c.spot_of.result c.args.ty z) (to_z-of_z w64 c.args.z c.ranges.z) ∙ ap (λ s. fits_rule s c.args.ty c.args.z) c.spot_of.ensures) (c.fits_rule.ensures.stops met s)
