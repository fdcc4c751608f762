use mathlib.Core.Path.{ap}
use Rattle.check_expr.specs.Expression.{fits_rule}
use Rattle.check_scope.proofs.Sequence.{reads_bind, reads_then, stops_bind, stops_then, stops_later, stops_after}
use Rattle.check_expr.proofs.Scopes.{if_err, reads_as, stops_as}
use Rattle.std.proofs.Common.{rules, w64}
use Rattle.std.proofs.lemmas.Int.{to_z-of_z}
use Rattle.silq_types.specs.Types.{at}
use Rattle.silq_tree.specs.Arena.{expr_at}
use Rattle.check_expr.proofs.values.static_typed.Goals as goal

pub returns-in_err-z-clause-stops : goal.returns-in_err-z-clause-stops
returns-in_err-z-clause-stops c = λ met. if_err _ _ _ c.from_residual.ensures.1 (stops_bind met _ _ _ _ _ (c.in_err-z.ensures.stops met))

pub returns-in_err-static_fits-clause-stops : goal.returns-in_err-static_fits-clause-stops
returns-in_err-static_fits-clause-stops c = λ met. if_err _ _ _ c.from_residual-in_err-static_fits.ensures.1 (stops_later met _ _ _ _ _ _ _ (c.in_ok-z.ensures.reads met) (stops_then met _ _ _ _ _ (stops_as met _ _ _ _ _ (ap (λ z. fits_rule (at (expr_at c.args.library.now.nodes c.args.e)) c.args.ty z) (to_z-of_z w64 c.in_ok-z.z (search rules))) (c.in_err-static_fits.ensures.stops met _))))

pub returns-in_err-values-clause-stops : goal.returns-in_err-values-clause-stops
returns-in_err-values-clause-stops c = λ met. if_err _ _ _ c.from_residual-in_err-values.ensures.1 (stops_later met _ _ _ _ _ _ _ (c.in_ok-z.ensures.reads met) (stops_after met _ _ _ _ _ _ _ (reads_as met _ _ _ _ _ (ap (λ z. fits_rule (at (expr_at c.args.library.now.nodes c.args.e)) c.args.ty z) (to_z-of_z w64 c.in_ok-z.z (search rules))) (c.in_ok-static_fits.ensures.reads met _)) (c.in_err-values.ensures.stops met)))

pub returns-clause-reads : goal.returns-clause-reads
returns-clause-reads c = λ met. (reads_bind met _ _ _ _ _ _ _ (c.in_ok-z.ensures.reads met) (reads_then met _ _ _ _ _ _ _ (reads_as met _ _ _ _ _ (ap (λ z. fits_rule (at (expr_at c.args.library.now.nodes c.args.e)) c.args.ty z) (to_z-of_z w64 c.in_ok-z.z (search rules))) (c.in_ok-static_fits.ensures.reads met _)) (c.in_ok-values.ensures.reads met)))
