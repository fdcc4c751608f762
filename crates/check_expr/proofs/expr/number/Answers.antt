use Rattle.std.proofs.Common.{w64, IfOk, IfErr, subst}
use Rattle.std.proofs.lemmas.Int.{to_z-of_z}
use Rattle.silq_tree.specs.Arena.{expr_at}
use Rattle.silq_tree.specs.Standing.{scalar_of}
use Rattle.check_scope.specs.State.{scope_in}
use Rattle.check_scope.specs.Steps.{Reads, Stops}
use Rattle.check_expr.specs.Forms.{number_values}
use Rattle.check_expr.proofs.expr.number.Goals as goal

pub returns-in-Some-clause-reads : goal.returns-in-Some-clause-reads
returns-in-Some-clause-reads c = λ met. rw c.in-Some.is (subst (λ z. IfOk c.typed_number.result (λ vs. Reads met (number_values (scope_in c.args.library.now c.args.cx.now) z (scalar_of (expr_at c.args.library.now.nodes) c.in-Some.ty) c.args.at) c.args.cx.now vs c.typed_number.new.cx)) (to_z-of_z w64 c.args.value c.ranges.value) (c.typed_number.ensures.reads met))

pub returns-in-Some-clause-stops : goal.returns-in-Some-clause-stops
returns-in-Some-clause-stops c = λ met. rw c.in-Some.is (subst (λ z. IfErr c.typed_number.result (λ f. Stops met (number_values (scope_in c.args.library.now c.args.cx.now) z (scalar_of (expr_at c.args.library.now.nodes) c.in-Some.ty) c.args.at) c.args.cx.now f c.typed_number.new.cx)) (to_z-of_z w64 c.args.value c.ranges.value) (c.typed_number.ensures.stops met))
