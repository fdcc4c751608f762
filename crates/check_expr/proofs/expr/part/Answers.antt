use Rattle.check_scope.proofs.Sequence.{reads_bind, stops_bind, stops_later}
use Rattle.check_expr.proofs.Scopes.{if_err}
use Rattle.check_expr.proofs.expr.part.Goals as goal

pub returns-in_err-value-clause-stops : goal.returns-in_err-value-clause-stops
returns-in_err-value-clause-stops c = λ met. if_err _ _ _ c.from_residual.ensures.1 (stops_bind met _ _ _ _ _ (c.in_err-value.ensures.stops met))

pub returns-in_err-list-clause-stops : goal.returns-in_err-list-clause-stops
returns-in_err-list-clause-stops c = λ met. if_err _ _ _ c.from_residual-in_err-list.ensures.1 (stops_later met _ _ _ _ _ _ _ (c.in_ok-value.ensures.reads met) (c.in_err-list.ensures.stops met _))

pub returns-clause-reads : goal.returns-clause-reads
returns-clause-reads c = λ met. (reads_bind met _ _ _ _ _ _ _ (c.in_ok-value.ensures.reads met) (c.in_ok-list.ensures.reads met _))
