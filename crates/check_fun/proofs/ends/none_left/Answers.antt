use Rattle.std.proofs.Common.{rules, ◌≡◌, ◌+◌, ◌≤◌, length, get_or, drop, subst, sym, arith}
use Rattle.check_fun.proofs.BlockSteps.{if_err_from, Ahead, ahead_start, ahead_then, ahead_stops}
use Rattle.check_fun.proofs.BlockEnds.{left_more, left_stops, left_all}
use Rattle.check_fun.proofs.ends.none_left.Goals as goal

pub loop-var-init : goal.loop-var-init
loop-var-init c = λ check s n. ahead_start check _ s n

pub loop-var-preserved : goal.loop-var-preserved
loop-var-preserved c = λ check s n. left_more check _ _ _ _ _ s n (c.loop-var-test.true, c.is_live_linear.ensures) (c.loop-var.invariant check s n) (c.in_ok-obey_now.ensures.runs check s n)

pub returns : goal.returns
returns c = record { runs = λ check s n. left_all check _ _ _ s n c.loop-var-test.false (c.loop-var.invariant check s n); fails = λ check s n. tt }

pub returns-in_err-obey_now-clause-fails : goal.returns-in_err-obey_now-clause-fails
returns-in_err-obey_now-clause-fails c = λ check s n. if_err_from _ _ _ c.from_residual.ensures.1 (left_stops check _ _ _ _ _ s n _ (c.loop-var-test.true, c.is_live_linear.ensures) (c.loop-var.invariant check s n) (c.in_err-obey_now.ensures.fails check s n))
