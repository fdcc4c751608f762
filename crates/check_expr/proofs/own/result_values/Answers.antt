use Rattle.check_expr.proofs.Called.{result_last, going_full, result_more, result_stops}
use Rattle.check_expr.proofs.Scopes.{if_err}
use Rattle.check_expr.proofs.own.result_values.Goals as goal

pub returns-in_err-value-clause-stops : goal.returns-in_err-value-clause-stops
returns-in_err-value-clause-stops c = λ met. if_err _ _ _ c.from_residual.ensures.1
    (result_stops met _ _ _ _ _ _ _ _ _ _ c.loop-returned-test.true (c.loop-returned.invariant met) _ (c.in_err-value.ensures.stops met))

pub returns-in_err-push-clause-stops : goal.returns-in_err-push-clause-stops
returns-in_err-push-clause-stops c = λ met. if_err _ _ _ c.from_residual-in_err-push.ensures.1
    (going_full met _ _ _ _ _ (result_more met _ _ _ _ _ _ _ _ _ _ c.loop-returned-test.true (c.loop-returned.invariant met) _ (c.in_ok-value.ensures.reads met)))

pub loop-returned-preserved : goal.loop-returned-preserved
loop-returned-preserved c = λ met. rw c.in_ok-push.ensures.ok
    (result_more met _ _ _ _ _ _ _ _ _ _ c.loop-returned-test.true (c.loop-returned.invariant met) _ (c.in_ok-value.ensures.reads met))

pub returns-clause-reads : goal.returns-clause-reads
returns-clause-reads c = λ met. result_last met _ _ _ _ _ _ _ _ c.loop-returned-test.false (c.loop-returned.invariant met)
