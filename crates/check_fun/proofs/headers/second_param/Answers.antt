use Rattle.std.proofs.Common.{◌≡◌, arith, slice_index_or}
use Rattle.check_fun.proofs.Taken.{second_there, second_on}
use Rattle.check_fun.proofs.headers.second_param.Goals as goal

pub returns-then-not-branch-clause-two : goal.returns-then-not-branch-clause-two
returns-then-not-branch-clause-two c =
    second_there _ _ c.loop-param.param-index _ c.loop-param.taken c.loop-param.invariant.0 _ (omega (arith, c.loop-param-test.true)) c.loop-param.invariant.1 c.loop-param.invariant.2
    c.in_ok-add.ensures.new c.if-not-branch.true

pub loop-param-preserved : goal.loop-param-preserved
loop-param-preserved c =
    second_on _ _ c.loop-param.param-index _ c.loop-param.taken c.loop-param.invariant.0 _ _ (omega (arith, c.loop-param-test.true)) c.loop-param.invariant.1 c.loop-param.invariant.2
    c.in_ok-add.ensures.new c.if-not-branch.false c.in_ok-add.ensures.added
