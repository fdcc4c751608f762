use Rattle.std.proofs.lemmas.Result.{IfOk-weaker, IfErr-weaker}
use Rattle.check_scope.proofs.PlaceSteps.{at_exit, found_again}
use Rattle.check_scope.proofs.Sequence.{reads_then, stops_then, stops_after}
use Rattle.check_scope.proofs.part_uses.use_whole.Goals as goal

pub returns-in_err-obey_use-clause-stops : goal.returns-in_err-obey_use-clause-stops
returns-in_err-obey_use-clause-stops c = λ met l. at_exit _ _ _ c.from_residual.ensures.1 (stops_then met _ _ _ _ _ (rw c.is_disturbed-bad.ensures at (c.in_err-obey_use.ensures.stops met l)))

pub take-requires : goal.take-requires
take-requires c = found_again c.args.cx.now.vars c.args.part c.args.var c.requires

pub returns-clause-reads : goal.returns-clause-reads
returns-clause-reads c = λ met l. IfOk-weaker c.take.result _ _ (λ v r. reads_then met _ _ _ _ _ _ _ (rw c.is_disturbed-bad.ensures at (c.in_ok-obey_use.ensures.reads met l)) r) (c.take.ensures.reads met)

pub returns-clause-stops : goal.returns-clause-stops
returns-clause-stops c = λ met l. IfErr-weaker c.take.result _ _ (λ v r. stops_after met _ _ _ _ _ _ _ (rw c.is_disturbed-bad.ensures at (c.in_ok-obey_use.ensures.reads met l)) r) (c.take.ensures.stops met)
