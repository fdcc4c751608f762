use Rattle.check_scope.proofs.Sequence.{reads_then, stops_then, stops_after}
use Rattle.check_expr.proofs.Scopes.{if_err}
use Rattle.check_expr.proofs.operators.unary_value.Goals as goal

pub returns-in_err-unary_rule-clause-stops : goal.returns-in_err-unary_rule-clause-stops
returns-in_err-unary_rule-clause-stops c = λ met. if_err _ _ _ c.from_residual.ensures.1 (stops_then met _ _ _ _ _ (c.in_err-unary_rule.ensures.stops met _))

pub returns-in_err-values-clause-stops : goal.returns-in_err-values-clause-stops
returns-in_err-values-clause-stops c = λ met. if_err _ _ _ c.from_residual-in_err-values.ensures.1 (stops_after met _ _ _ _ _ _ _ (c.in_ok-unary_rule.ensures.reads met _) (c.in_err-values.ensures.stops met))

pub returns-clause-reads : goal.returns-clause-reads
returns-clause-reads c = λ met. (reads_then met _ _ _ _ _ _ _ (c.in_ok-unary_rule.ensures.reads met _) (c.in_ok-values.ensures.reads met))
