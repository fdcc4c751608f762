use Rattle.check_expr.proofs.Scopes.{if_err}
use Rattle.check_scope.proofs.Sequence.{reads_bind, reads_then, reads_back, stops_bind, stops_then, stops_later}
use Rattle.check_expr.proofs.own.instance_values.Goals as goal

pub returns-in_err-given-clause-stops : goal.returns-in_err-given-clause-stops
returns-in_err-given-clause-stops c = λ met. if_err _ _ _ c.from_residual.ensures.1 (stops_bind met _ _ _ _ _ (c.in_err-given.ensures.stops met))

pub returns-in_err-unnamed_rule-clause-stops : goal.returns-in_err-unnamed_rule-clause-stops
returns-in_err-unnamed_rule-clause-stops c = λ met. if_err _ _ _ c.from_residual-in_err-unnamed_rule.ensures.1
    (stops_later met _ _ _ _ _ _ _ (c.in_ok-given.ensures.reads met)
    (stops_then met _ _ _ _ _ (rw (c.lone_linear.ensures, c.as_slice.ensures) at (c.in_err-unnamed_rule.ensures.stops met c.result_values.new.cx))))

pub returns-clause-reads : goal.returns-clause-reads
returns-clause-reads c = λ met. reads_bind met _ _ _ _ _ _ _ (c.in_ok-given.ensures.reads met)
    (reads_then met _ _ _ _ _ _ _ (rw (c.lone_linear.ensures, c.as_slice.ensures) at (c.in_ok-unnamed_rule.ensures.reads met c.result_values.new.cx)) (reads_back met _ _))
