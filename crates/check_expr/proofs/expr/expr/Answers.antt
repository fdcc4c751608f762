use Rattle.std.proofs.Common.{subst}
use Rattle.silq_tree.specs.Arena.{expr_at}
use Rattle.check_expr.specs.Expression.{expr}
use Rattle.check_scope.specs.State.{scope_in}
use Rattle.check_scope.specs.Steps.{Reads, Stops}
use Rattle.check_expr.proofs.Walks.{restored}
use Rattle.check_expr.proofs.expr.expr.Goals as goal

pub returns-in-Ok-clause-values : goal.returns-in-Ok-clause-values
returns-in-Ok-clause-values c = subst (λ s. Reads c.args.known.now (expr (expr_at c.args.library.now.nodes c.args.e) (scope_in c.args.library.now s) c.args.need c.args.wants.now) s c.in-Ok.values c.walk.new.cx) c.begin.ensures c.in-Ok.ensures.reads

pub returns-in-Err-clause-stops : goal.returns-in-Err-clause-stops
returns-in-Err-clause-stops c = (subst (λ s. Stops c.args.known.now (expr (expr_at c.args.library.now.nodes c.args.e) (scope_in c.args.library.now s) c.args.need c.args.wants.now) s c.in-Err.fault c.walk.new.cx) c.begin.ensures c.in-Err.ensures.stops).runs

pub returns-in-Err-clause-unchanged : goal.returns-in-Err-clause-unchanged
returns-in-Err-clause-unchanged c = restored c.args.cx.now _ _ _ _ _ c.begin.ensures c.in-Err.ensures.stops.keeps c.next-next.ensures c.height-height.ensures c.restore.ensures
