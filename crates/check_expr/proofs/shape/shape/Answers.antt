use Rattle.check_expr.proofs.ShapesWalk.{types_told_read}
use Rattle.check_scope.specs.State.{scope_in}
use Rattle.silq_tree.specs.Arena.{expr_at}
use Rattle.check_expr.proofs.shape.shape.Goals as goal

pub returns-clause-types : goal.returns-clause-types
returns-clause-types c = λ need wants vs s r.
    types_told_read c.args.known.now (scope_in c.args.library.now c.args.cx.now) (expr_at c.args.library.now.nodes c.args.e) need wants vs c.args.cx.now s c.in_ok-types.types c.if-has_static.ensures c.in_ok-types.ensures r
