use Rattle.std.proofs.Common.{false, arith}
use Rattle.check_scope.proofs.Obeyed.{reached_more, obeyed, disobeyed}
use Rattle.check_scope.proofs.obey.obey.Goals as goal

pub returns-then-broken-clause-stops : goal.returns-then-broken-clause-stops
returns-then-broken-clause-stops c = disobeyed c.args.at _ _ (false, 0) c.loop-broken.invariant (omega arith) c.if-broken.true

pub loop-broken-preserved : goal.loop-broken-preserved
loop-broken-preserved c = reached_more c.args.at _ _ (false, 0) c.loop-broken.invariant (omega arith) c.if-broken.false

pub returns-clause-reads : goal.returns-clause-reads
returns-clause-reads c = obeyed c.args.at _ _ c.loop-broken.invariant (omega arith)
