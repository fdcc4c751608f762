-- How linking an edge changes the rows of vertices.
use Rattle.std.specs.Prelude.{◌≡◌, Bool, true, false, cond, ◌&&◌, eqb, List, slice_get, Some}
use Rattle.graph_core.specs.declared.graph.VertexId.{VertexId}
use Rattle.graph_core.specs.declared.graph.EdgeId.{EdgeId}
use Rattle.graph_core.specs.declared.links.VertexRow.{VertexRow}
use Rattle.graph_core.specs.Links.{link}

abbrev pub same_direction : Bool → Bool → Bool
same_direction true d = d
same_direction false true = false
same_direction false false = true

-- the row of a vertex before, and what its list in one direction begins with now
pub record WasPut (entering : Bool) (v : VertexId) (id : EdgeId) (old : List VertexRow) (d : Bool) (u : VertexId) (now : VertexRow) : Type 0 where
  pub row : VertexRow
  pub at : slice_get old u.number ≡ Some row
  pub first : link d now.first ≡ cond (same_direction entering d && eqb v.number u.number) (Some id) (link d row.first)

-- an edge was made the first of one list, and the other lists begin as before
abbrev pub IsFirstPut : Bool → VertexId → EdgeId → List VertexRow → List VertexRow → Type 0
IsFirstPut entering v id old new = (d : Bool) (u : VertexId) (now : VertexRow) → slice_get new u.number ≡ Some now → WasPut entering v id old d u now
