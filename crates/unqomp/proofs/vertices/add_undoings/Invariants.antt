use Rattle.std.proofs.Common.{◌≤◌, length}
use Rattle.unqomp.specs.Making.{IsBackStage}
use Rattle.unqomp.proofs.vertices.add_undoings.Given as goal

abbrev pub invariant-loop-i : goal.invariant-loop-i
invariant-loop-i l = record { stage : IsBackStage l.flat l.graph l.chains.items l.i; within : l.i ≤ length l.flat.steps }

abbrev pub decreases-loop-i : goal.decreases-loop-i
decreases-loop-i l = l.i
