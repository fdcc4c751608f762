use Rattle.std.proofs.Common.{◌≡◌}
use Rattle.unqomp.specs.UseList.{uses_before}
use Rattle.unqomp.specs.UsesAdded.{HasUses}
use Rattle.unqomp.proofs.edges.add_all_uses.Given as goal

abbrev pub invariant-loop-i : goal.invariant-loop-i
invariant-loop-i l = record {
  same : l.graph.vertices ≡ l.initial.graph.vertices;
  has : HasUses l.flat l.graph (uses_before l.flat l.i);
}
