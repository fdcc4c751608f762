use Rattle.unqomp.specs.Making.{IsLastStage}
use Rattle.unqomp.proofs.vertices.add_freeings.Given as goal

abbrev pub invariant-loop-i : goal.invariant-loop-i
invariant-loop-i l = IsLastStage l.flat l.graph l.chains.items l.i
