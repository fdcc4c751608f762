use Rattle.std.proofs.Common.{IfOk, IfErr}
use Rattle.silq_tree.specs.Arena.{expr_at}
use Rattle.check_scope.specs.Steps.{Reads, Stops}
use Rattle.check_expr.specs.Expression.{static_value}
use Rattle.check_scope.specs.State.{scope_in}
use Rattle.check_expr.proofs.Scopes.{only_one}
use Rattle.check_expr.proofs.values.static_value.Goals as goal

pub returns-in-len1-clause-reads : goal.returns-in-len1-clause-reads
returns-in-len1-clause-reads c = λ met. only_one (λ w. IfOk c.static_typed.result (λ vs. Reads met (static_value (scope_in c.args.library.now c.args.cx.now) (expr_at c.args.library.now.nodes c.args.e) w) c.args.cx.now vs c.static_typed.new.cx)) _ _ c.in-len1.len_at_least c.in-len1.len_below (c.static_typed.ensures.reads met)

pub returns-in-len1-clause-stops : goal.returns-in-len1-clause-stops
returns-in-len1-clause-stops c = λ met. only_one (λ w. IfErr c.static_typed.result (λ f. Stops met (static_value (scope_in c.args.library.now c.args.cx.now) (expr_at c.args.library.now.nodes c.args.e) w) c.args.cx.now f c.static_typed.new.cx)) _ _ c.in-len1.len_at_least c.in-len1.len_below (c.static_typed.ensures.stops met)
