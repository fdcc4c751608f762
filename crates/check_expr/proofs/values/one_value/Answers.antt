use Rattle.check_scope.proofs.Sequence.{reads_bind, stops_later}
use Rattle.check_expr.proofs.Scopes.{if_err}
use Rattle.check_expr.proofs.values.one_value.Goals as goal

pub returns-clause-reads : goal.returns-clause-reads
returns-clause-reads c = λ met. reads_bind met _ _ _ _ _ _ _ (c.in_ok-value.ensures.reads met) (c.in_ok-values.ensures.reads met _)

pub returns-in_err-values-clause-stops : goal.returns-in_err-values-clause-stops
returns-in_err-values-clause-stops c = λ met. if_err _ _ _ c.from_residual-in_err-values.ensures.1 (stops_later met _ _ _ _ _ _ _ (c.in_ok-value.ensures.reads met) (c.in_err-values.ensures.stops met _))
