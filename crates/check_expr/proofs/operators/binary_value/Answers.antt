use Rattle.check_scope.proofs.Sequence.{reads_bind, reads_then, reads_variables, stops_then, stops_later, stops_after}
use Rattle.check_expr.proofs.Scopes.{if_err}
use Rattle.check_expr.proofs.operators.binary_value.Goals as goal

pub returns-in_err-binary_rules-clause-stops : goal.returns-in_err-binary_rules-clause-stops
returns-in_err-binary_rules-clause-stops c = λ met. if_err _ _ _ c.from_residual.ensures.1 (stops_later met _ _ _ _ _ _ _ (reads_variables met _) (stops_then met _ _ _ _ _ (c.in_err-binary_rules.ensures.stops met)))

pub returns-in_err-list-clause-stops : goal.returns-in_err-list-clause-stops
returns-in_err-list-clause-stops c = λ met. if_err _ _ _ c.from_residual-in_err-list.ensures.1 (stops_later met _ _ _ _ _ _ _ (reads_variables met _) (stops_after met _ _ _ _ _ _ _ (c.in_ok-binary_rules.ensures.reads met) (c.in_err-list.ensures.stops met)))

pub returns-clause-reads : goal.returns-clause-reads
returns-clause-reads c = λ met. (reads_bind met _ _ _ _ _ _ _ (reads_variables met _) (reads_then met _ _ _ _ _ _ _ (c.in_ok-binary_rules.ensures.reads met) (c.in_ok-list.ensures.reads met)))
