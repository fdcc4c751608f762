use Rattle.unqomp.specs.Making.{IsForthStage}
use Rattle.unqomp.proofs.vertices.add_steps.Given as goal

abbrev pub invariant-loop-i : goal.invariant-loop-i
invariant-loop-i l = IsForthStage l.flat l.graph l.chains.items l.i
