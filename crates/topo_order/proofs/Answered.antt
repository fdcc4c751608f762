-- What the ids at the end answer.
use Rattle.std.proofs.Common.{◌≡◌, ℕ, ◌<◌, Bool, true, false, List, [], ◌∷◌, length, get_or, Contains, refl}
use Rattle.graph_core.specs.declared.graph.VertexId.{VertexId}
use Rattle.graph_core.specs.Arena.{Arena, IsArena, AreVerticesOf, digraph_of}
use Rattle.graph_core.specs.Digraph.{IsAcyclic}
use Rattle.topo_order.specs.ReadyOrder.{IsReadyOrder}
use Rattle.topo_order.specs.OrderOf.{IsOrderOf}
use Rattle.topo_order.specs.Flags.{vertices_of}
use Rattle.topo_order.proofs.Orders.{ordered_is_acyclic, ready_order_is_linear, contains_here, contains_later}
use Rattle.topo_order.proofs.Going.{Going, going_end, read_at}

-- ids that are there have their vertices
ids_of : (g : Arena) (ids : List VertexId) → ((v : VertexId) → Contains ids v → v.number < length g.vertices) → AreVerticesOf g ids (vertices_of g ids)
ids_of g [] there = tt
ids_of g (id ∷ ids) there = (read_at g id (there id (contains_here id id ids refl)), ids_of g ids (λ v c. there v (contains_later id v ids c)))

module _ (g : Arena) (ok : IsArena g) (flags : List Bool) (ids : List VertexId) (so : Going g flags ids) (all : (i : ℕ) → i < length flags → get_or flags i false ≡ true) where
  ready : IsReadyOrder (digraph_of g) (vertices_of g ids)
  ready = going_end g ok flags ids so all

  pub answer_order : IsOrderOf g ids
  answer_order = record { order = vertices_of g ids; ids_of = ids_of g ids (λ v c. (so.in_flag v c).0); ready = ready }

  pub answer_acyclic : IsAcyclic (digraph_of g)
  answer_acyclic = ordered_is_acyclic (digraph_of g) (vertices_of g ids) (ready_order_is_linear (digraph_of g) (vertices_of g ids) ready)
