use mathlib.Core.Path.{ap}
use Rattle.check_expr.specs.Expression.{fits_rule}
use Rattle.check_scope.proofs.Sequence.{reads_bind, reads_then, reads_variables, stops_bind, stops_then, stops_later, stops_after}
use Rattle.check_expr.proofs.Scopes.{if_err, reads_as, stops_as}
use Rattle.std.proofs.Common.{w64}
use Rattle.std.proofs.lemmas.Int.{to_z-of_z}
use Rattle.silq_types.specs.Types.{quantum, single_shape}
use Rattle.check_expr.proofs.values.typed_value.Goals as goal

pub returns-in_err-scalar-clause-stops : goal.returns-in_err-scalar-clause-stops
returns-in_err-scalar-clause-stops c = λ met. if_err _ _ _ c.from_residual.ensures.1 (stops_later met _ _ _ _ _ _ _ (reads_variables met _) (stops_bind met _ _ _ _ _ (c.in_err-scalar.ensures.stops met)))

pub returns-in_err-number_fits-clause-stops : goal.returns-in_err-number_fits-clause-stops
returns-in_err-number_fits-clause-stops c = λ met. if_err _ _ _ c.from_residual-in_err-number_fits.ensures.1 (stops_later met _ _ _ _ _ _ _ (reads_variables met _) (stops_later met _ _ _ _ _ _ _ (c.in_ok-scalar.ensures.reads met) (stops_then met _ _ _ _ _ (stops_as met _ _ _ _ _ (ap (λ z. fits_rule c.args.at (quantum (single_shape c.in_ok-scalar.scalar)) z) (to_z-of_z w64 c.args.number c.ranges.number)) (c.in_err-number_fits.ensures.stops met _)))))

pub returns-in_err-value-clause-stops : goal.returns-in_err-value-clause-stops
returns-in_err-value-clause-stops c = λ met. if_err _ _ _ c.from_residual-in_err-value.ensures.1 (stops_later met _ _ _ _ _ _ _ (reads_variables met _) (stops_later met _ _ _ _ _ _ _ (c.in_ok-scalar.ensures.reads met) (stops_after met _ _ _ _ _ _ _ (reads_as met _ _ _ _ _ (ap (λ z. fits_rule c.args.at (quantum (single_shape c.in_ok-scalar.scalar)) z) (to_z-of_z w64 c.args.number c.ranges.number)) (c.in_ok-number_fits.ensures.reads met _)) (c.in_err-value.ensures.stops met))))

pub returns-clause-reads : goal.returns-clause-reads
returns-clause-reads c = λ met. (reads_bind met _ _ _ _ _ _ _ (reads_variables met _) (reads_bind met _ _ _ _ _ _ _ (c.in_ok-scalar.ensures.reads met) (reads_then met _ _ _ _ _ _ _ (reads_as met _ _ _ _ _ (ap (λ z. fits_rule c.args.at (quantum (single_shape c.in_ok-scalar.scalar)) z) (to_z-of_z w64 c.args.number c.ranges.number)) (c.in_ok-number_fits.ensures.reads met _)) (c.in_ok-value.ensures.reads met))))
