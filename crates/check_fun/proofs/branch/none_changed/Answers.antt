use Rattle.std.proofs.Common.{rules, ◌≡◌, ◌+◌, ◌<◌, ◌≤◌, length, get_or, drop}
use Rattle.check_fun.proofs.BlockSteps.{if_err_from, ahead_start}
use Rattle.check_fun.proofs.BlockEnds.{changed_more, changed_stops, changed_all, changed_short}
use Rattle.check_fun.proofs.branch.none_changed.Goals as goal

pub loop-i-init : goal.loop-i-init
loop-i-init c = λ check s n. ahead_start check _ s n

pub loop-i-preserved : goal.loop-i-preserved
loop-i-preserved c = λ check s n. changed_more check _ _ _ _ _ _ _ s n (c.loop-i-test.true, c.in-Some.ensures.lookup.3.0, c.in-Some.ensures.lookup.1, c.is_changed.ensures) (c.loop-i.invariant check s n) (c.in_ok-obey_now.ensures.runs check s n)

pub returns-clause-runs : goal.returns-clause-runs
returns-clause-runs c = λ check s n. changed_all check _ _ _ _ s n c.loop-i-test.false (c.loop-i.invariant check s n)

pub returns-in_default-clause-runs : goal.returns-in_default-clause-runs
returns-in_default-clause-runs c = λ check s n. changed_short check _ _ _ _ s n c.in_default.ensures.lookup.3 (c.loop-i.invariant check s n)

pub returns-in_err-obey_now-clause-fails : goal.returns-in_err-obey_now-clause-fails
returns-in_err-obey_now-clause-fails c = λ check s n. if_err_from _ _ _ c.from_residual.ensures.1 (changed_stops check _ _ _ _ _ _ _ s n _ (c.loop-i-test.true, c.in-Some.ensures.lookup.3.0, c.in-Some.ensures.lookup.1, c.is_changed.ensures) (c.loop-i.invariant check s n) (c.in_err-obey_now.ensures.fails check s n))
