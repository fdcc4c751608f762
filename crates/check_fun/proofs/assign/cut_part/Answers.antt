use Rattle.std.proofs.Common.{sym, ap, take}
use Rattle.check_scope.specs.Context.{put_variables}
use Rattle.check_fun.specs.Statement.{made_linear}
use Rattle.check_scope.specs.State.{State}
use Rattle.check_fun.proofs.Assigning.{runs_put_again, put_same, runs_put_linear}
use Rattle.check_fun.proofs.assign.cut_part.Goals as goal

pub returns-then-linear : goal.returns-then-linear
returns-then-linear c = λ check cs. runs_put_linear check c.args.linear c.args.cx.now _ _ cs c.args.count c.args.owner c.if-linear.true c.cut.ensures (c.make_linear.ensures check cs)
