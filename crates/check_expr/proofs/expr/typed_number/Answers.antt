use mathlib.Core.Path.{ap}
use Rattle.check_scope.proofs.Sequence.{reads_bind, stops_bind, stops_later}
use Rattle.check_expr.proofs.Scopes.{if_err, reads_as, stops_as}
use Rattle.std.proofs.Common.{w64}
use Rattle.std.proofs.lemmas.Int.{to_z-of_z}
use Rattle.silq_tree.specs.Arena.{expr_at}
use Rattle.silq_tree.specs.Standing.{scalar_of}
use Rattle.check_scope.specs.State.{scope_in}
use Rattle.check_expr.specs.Expression.{typed_value}
use Rattle.check_expr.proofs.expr.typed_number.Goals as goal

pub returns-in_err-value-clause-stops : goal.returns-in_err-value-clause-stops
returns-in_err-value-clause-stops c = λ met. if_err _ _ _ c.from_residual.ensures.1 (stops_bind met _ _ _ _ _ (stops_as met _ _ _ _ _ (ap (λ z. typed_value (scope_in c.args.library.now c.args.cx.now) z (scalar_of (expr_at c.args.library.now.nodes) c.args.ty) c.args.at) (to_z-of_z w64 c.args.value c.ranges.value)) (c.in_err-value.ensures.stops met)))

pub returns-in_err-list-clause-stops : goal.returns-in_err-list-clause-stops
returns-in_err-list-clause-stops c = λ met. if_err _ _ _ c.from_residual-in_err-list.ensures.1 (stops_later met _ _ _ _ _ _ _ (reads_as met _ _ _ _ _ (ap (λ z. typed_value (scope_in c.args.library.now c.args.cx.now) z (scalar_of (expr_at c.args.library.now.nodes) c.args.ty) c.args.at) (to_z-of_z w64 c.args.value c.ranges.value)) (c.in_ok-value.ensures.reads met)) (c.in_err-list.ensures.stops met _))

pub returns-clause-reads : goal.returns-clause-reads
returns-clause-reads c = λ met. (reads_bind met _ _ _ _ _ _ _ (reads_as met _ _ _ _ _ (ap (λ z. typed_value (scope_in c.args.library.now c.args.cx.now) z (scalar_of (expr_at c.args.library.now.nodes) c.args.ty) c.args.at) (to_z-of_z w64 c.args.value c.ranges.value)) (c.in_ok-value.ensures.reads met)) (c.in_ok-list.ensures.reads met _))
