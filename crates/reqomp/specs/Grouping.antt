-- The kept vertices of a level, each with the steps that are done again for it, in the order of their ids in the circuit graph.
use Rattle.std.specs.Prelude.{◌≡◌, ℕ, ◌<◌, List, map, slice_get, Some, Contains}
use Rattle.flat_core.specs.declared.step.WireId.{WireId}
use Rattle.flat_core.specs.Form.{FlatForm}
use Rattle.graph_core.specs.declared.vertex.Vertex.{Vertex}
use Rattle.graph_core.specs.declared.graph.VertexId.{VertexId}
use Rattle.graph_core.specs.Arena.{Arena, IsVertexOf}
use Rattle.reqomp.specs.declared.groups.Group.{Group}
use Rattle.reqomp.specs.declared.groups.Groups.{Groups}
use Rattle.reqomp.specs.Level.{IsKept, IsRedone}
use Rattle.reqomp.specs.Planning.{GiveMoves, AreSomeKept}

abbrev pub vertices_of : List Group → List Vertex
vertices_of groups = map (λ (g : Group). g.vertex) groups

-- a kept vertex, with its id in the circuit graph and the steps that are done again for it
pub record IsGroup (f : FlatForm) (marked : List WireId) (circuit : Arena) (group : Group) : Type 0 where
  pub at : IsVertexOf circuit group.at group.vertex
  pub kept : IsKept f marked group.vertex
  pub redone : IsRedone f marked group.vertex group.steps.items

-- the groups of the kept ones of the first n vertices, and how many moves they give
pub record AreGroups (f : FlatForm) (marked : List WireId) (circuit : Arena) (n : ℕ) (groups : Groups) : Type 0 where
  pub some : AreSomeKept f marked (vertices_of groups.items.items)
  pub each : (i : ℕ) (group : Group) → slice_get groups.items.items i ≡ Some group → IsGroup f marked circuit group
  pub early : (i : ℕ) (group : Group) → slice_get groups.items.items i ≡ Some group → group.at.number < n
  pub all : (id : VertexId) (v : Vertex) → id.number < n → IsVertexOf circuit id v → IsKept f marked v → Contains (vertices_of groups.items.items) v
  pub moves : GiveMoves f marked (vertices_of groups.items.items) groups.moves
