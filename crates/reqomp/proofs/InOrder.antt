-- The ids of an order, read as moves.
use Rattle.std.proofs.Common.{◌≡◌, ℕ, ◌+◌, ◌<◌, ◌≤◌, List, [], ◌∷◌, ◌++◌, length, take, get_or, slice_get, Some, Err, sym, ap, ◌∙◌, arith}
use Rattle.std.proofs.lemmas.List.{length-map, take_more, take_all}
use Rattle.std.proofs.lemmas.Option.{slice_get_within, get_or_from_slice_get}
use Rattle.flat_core.specs.Form.{FlatForm}
use Rattle.graph_core.specs.declared.vertex.Vertex.{Vertex}
use Rattle.graph_core.specs.declared.graph.VertexId.{VertexId}
use Rattle.graph_core.specs.Arena.{Arena, IsVertexOf, AreVerticesOf}
use Rattle.graph_core.specs.Circuit.{IsVertex}
use Rattle.graph_core.proofs.Places.{at_unique, at_map, contains_at}
use Rattle.unqomp.specs.GraphOf.{HasVertices}
use Rattle.unqomp.proofs.Ids.{length-ids, vertex_at}
use Rattle.topo_order.specs.declared.vertex_order.OrderFault.{OrderFault}
use Rattle.topo_order.specs.declared.vertex_order.OrderFault.TheVariants.{Memory, Cycle}
use Rattle.topo_order.specs.OrderOf.{IsOrderOf, IfCycle}
use Rattle.move_plan.specs.declared.moves.Move.{Move}
use Rattle.move_plan.specs.AsMoves.{move_of, moves_of}

module _ (f : FlatForm) (g : Arena) where
  -- an id of an order is that of a vertex
  pub id_there : (ids : List VertexId) → IsOrderOf g ids → (i : ℕ) (id : VertexId) → slice_get ids i ≡ Some id → id.number < length g.vertices
  id_there ids o i id e = let v = vertex_at g ids o.order o.ids_of i id e in slice_get_within g.vertices id.number v.0 v.2

  pub vertex_there : HasVertices g (IsVertex f) → (id : VertexId) (v : Vertex) → IsVertexOf g id v → IsVertex f v
  vertex_there has id v e = (has v).0 (contains_at g.vertices id.number v e)

  module _ (ids : List VertexId) (order : List Vertex) (are : AreVerticesOf g ids order) where
    -- one more id gives the next move
    pub move_more : (i : ℕ) (id : VertexId) (v : Vertex) (moves : List Move) → slice_get ids i ≡ Some id → IsVertexOf g id v → moves ≡ take i (moves_of f order) → moves ++ move_of f v ∷ [] ≡ take (i + 1) (moves_of f order)
    move_more i id v moves e is so_far =
        let u = vertex_at g ids order are i id e in
        let same : u.0 ≡ v = at_unique g.vertices id.number u.0 v u.2 is in
        let here : slice_get (moves_of f order) i ≡ Some (move_of f u.0) = at_map (move_of f) order i u.0 u.1 in
        let read : get_or (moves_of f order) i (move_of f v) ≡ move_of f u.0 = get_or_from_slice_get (moves_of f order) i (move_of f u.0) (move_of f v) here in
        ap (λ (l : List Move). l ++ move_of f v ∷ []) so_far
        ∙ ap (λ (m : Move). take i (moves_of f order) ++ m ∷ []) (sym (read ∙ ap (move_of f) same))
        ∙ sym (take_more (moves_of f order) i (move_of f v) (slice_get_within (moves_of f order) i (move_of f u.0) here))

    pub move_all : (i : ℕ) (moves : List Move) → length ids ≤ i → moves ≡ take i (moves_of f order) → moves ≡ moves_of f order
    move_all i moves l so_far =
        let n = length-ids g ids order are in
        let m = length-map order (move_of f) in
        so_far ∙ take_all i (moves_of f order) (omega arith)

-- what holds of a given cycle is passed on
pub cycle_kept : (A B : Type 0) (e : OrderFault) (P Q : List Vertex → Type 0) → ((cycle : List Vertex) → P cycle → Q cycle) → IfCycle {T = A} (Err e) P → IfCycle {T = B} (Err e) Q
cycle_kept A B Memory P Q h p = tt
cycle_kept A B (Cycle vertices) P Q h p = h vertices p
