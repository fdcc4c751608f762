use Rattle.std.proofs.Common.{arith}
use Rattle.check_scope.proofs.VariableWalks.{names_same_more}
use Rattle.check_scope.proofs.context.same_names.Goals as goal

pub loop-n-preserved : goal.loop-n-preserved
loop-n-preserved c = names_same_more _ _ c.loop-n.n _ _ (omega arith) (omega arith) c.if-vars-n.false c.loop-n.invariant
