use Rattle.std.proofs.lemmas.Result.{IfOk-weaker, IfErr-weaker}
use Rattle.check_scope.proofs.PlaceSteps.{at_exit, stops_fail}
use Rattle.check_scope.proofs.Sequence.{reads_then, stops_then, stops_after}
use Rattle.check_scope.proofs.part_uses.use_part.Goals as goal

pub returns-in_err-obey_use-in-None-clause-stops : goal.returns-in_err-obey_use-in-None-clause-stops
returns-in_err-obey_use-in-None-clause-stops c = λ met l. at_exit _ _ _ c.from_residual.ensures.1 (rw (← c.in-None.ensures) (stops_then met _ _ _ _ _ (c.in_err-obey_use-in-None.ensures.stops met l)))

pub returns-in_ok-obey_use-in-None-clause-stops : goal.returns-in_ok-obey_use-in-None-clause-stops
returns-in_ok-obey_use-in-None-clause-stops c = λ met l. rw (← c.in-None.ensures) (stops_after met _ _ _ _ _ _ _ (c.in_ok-obey_use-in-None.ensures.reads met l) (stops_fail met _ _ _))

pub returns-in_err-obey_use-in-Some-clause-stops : goal.returns-in_err-obey_use-in-Some-clause-stops
returns-in_err-obey_use-in-Some-clause-stops c = λ met l. at_exit _ _ _ c.from_residual-in_err-obey_use-in-Some.ensures.1 (rw (← c.in-Some.ensures) (stops_then met _ _ _ _ _ (rw c.is_blocked-bad.ensures at (c.in_err-obey_use-in-Some.ensures.stops met l))))

pub returns-in_ok-obey_use-in-Some-clause-reads : goal.returns-in_ok-obey_use-in-Some-clause-reads
returns-in_ok-obey_use-in-Some-clause-reads c = λ met l.
    rw (← c.in-Some.ensures) (IfOk-weaker c.leave.result _ _ (λ v r. reads_then met _ _ _ _ _ _ _ (rw c.is_blocked-bad.ensures at (c.in_ok-obey_use-in-Some.ensures.reads met l)) r) (c.leave.ensures.reads met))

pub returns-in_ok-obey_use-in-Some-clause-stops : goal.returns-in_ok-obey_use-in-Some-clause-stops
returns-in_ok-obey_use-in-Some-clause-stops c = λ met l.
    rw (← c.in-Some.ensures) (IfErr-weaker c.leave.result _ _ (λ v r. stops_after met _ _ _ _ _ _ _ (rw c.is_blocked-bad.ensures at (c.in_ok-obey_use-in-Some.ensures.reads met l)) r) (c.leave.ensures.stops met))
