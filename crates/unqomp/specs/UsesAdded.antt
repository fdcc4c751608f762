-- A graph to which the edges of some uses were added.
use Rattle.std.specs.Prelude.{◌+◌, ◌*◌, ◌≤◌, List, length}
use Rattle.flat_core.specs.Form.{FlatForm}
use Rattle.graph_core.specs.Arena.{Arena}
use Rattle.graph_core.specs.Slots.{SlotEdge}
use Rattle.unqomp.specs.declared.uses.Use.{Use}
use Rattle.unqomp.specs.GraphOf.{HasEdges}
use Rattle.unqomp.specs.UseList.{InUses}

-- the graph has the edges along the chains and those of the uses, at most two for each
pub record HasUses (f : FlatForm) (g : Arena) (uses : List Use) : Type 0 where
  pub edges : HasEdges g (SlotEdge f (InUses uses))
  pub few : length g.arrows ≤ 500000 + 2 * length uses
