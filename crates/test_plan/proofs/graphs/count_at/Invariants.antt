use Rattle.std.proofs.Common.{length}
use Rattle.test_plan.proofs.graphs.count_at.Given as goal

abbrev pub decreases-loop-end : goal.decreases-loop-end
decreases-loop-end l = length l.edges
