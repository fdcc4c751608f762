use Rattle.std.proofs.Common.{rules}
use Rattle.check_fun.proofs.BlockSteps.{if_err_from}
use Rattle.check_fun.proofs.BlockBranches.{runs_ended, fails_ended}
use Rattle.check_fun.proofs.branch.end_branch.Goals as goal

pub returns-in_err-end_from-clause-fails : goal.returns-in_err-end_from-clause-fails
returns-in_err-end_from-clause-fails c = λ check n. if_err_from _ _ _ c.from_residual-in_err-end_from.ensures.1 (fails_ended check _ _ _ _ n _ c.vars.ensures (c.in_ok-none_changed.ensures.runs check _ n) (c.in_err-end_from.ensures.fails check n))

pub returns-clause-runs : goal.returns-clause-runs
returns-clause-runs c = λ check n. runs_ended check _ _ _ _ _ n c.vars.ensures (c.in_ok-none_changed.ensures.runs check _ n) (c.in_ok-end_from.ensures.runs check n)
