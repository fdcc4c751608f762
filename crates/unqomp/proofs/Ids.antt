-- Ids and their vertices, one by one.
use Rattle.std.proofs.Common.{◌≡◌, ℕ, zero, suc, List, [], ◌∷◌, ◌++◌, length, slice_get, Some, refl, sym, ap, ◌∙◌}
use Rattle.std.proofs.lemmas.Option.{same_Some}
use Rattle.graph_core.specs.declared.vertex.Vertex.{Vertex}
use Rattle.graph_core.specs.declared.graph.VertexId.{VertexId}
use Rattle.graph_core.specs.Arena.{Arena, IsVertexOf, AreVerticesOf}

module _ (g : Arena) where
  pub length-ids : (ids : List VertexId) (vs : List Vertex) → AreVerticesOf g ids vs → length ids ≡ length vs
  length-ids [] [] h = refl
  length-ids [] (v ∷ vs) h = absurd h
  length-ids (id ∷ ids) [] h = absurd h
  length-ids (id ∷ ids) (v ∷ vs) h = ap suc (length-ids ids vs h.1)

  -- the vertex at the place of an id
  pub vertex_at : (ids : List VertexId) (vs : List Vertex) → AreVerticesOf g ids vs → (j : ℕ) (id : VertexId) → slice_get ids j ≡ Some id → (v : Vertex) × (slice_get vs j ≡ Some v) × IsVertexOf g id v
  vertex_at [] vs h j id e = cc
  vertex_at (x ∷ ids) [] h j id e = absurd h
  vertex_at (x ∷ ids) (v ∷ vs) h zero id e = (v, refl, ap (λ (y : VertexId). slice_get g.vertices y.number) (sym (same_Some x id e)) ∙ h.0)
  vertex_at (x ∷ ids) (v ∷ vs) h (suc j) id e = vertex_at ids vs h.1 j id e

  -- the id at the place of a vertex
  pub id_at : (ids : List VertexId) (vs : List Vertex) → AreVerticesOf g ids vs → (j : ℕ) (v : Vertex) → slice_get vs j ≡ Some v → (id : VertexId) × (slice_get ids j ≡ Some id) × IsVertexOf g id v
  id_at ids [] h j v e = cc
  id_at [] (x ∷ vs) h j v e = absurd h
  id_at (id ∷ ids) (x ∷ vs) h zero v e = (id, refl, h.0 ∙ e)
  id_at (id ∷ ids) (x ∷ vs) h (suc j) v e = id_at ids vs h.1 j v e

  pub ids_push : (ids : List VertexId) (vs : List Vertex) (id : VertexId) (v : Vertex) → AreVerticesOf g ids vs → IsVertexOf g id v → AreVerticesOf g (ids ++ id ∷ []) (vs ++ v ∷ [])
  ids_push [] [] id v h i = (i, tt)
  ids_push [] (x ∷ vs) id v h i = absurd h
  ids_push (y ∷ ids) [] id v h i = absurd h
  ids_push (y ∷ ids) (x ∷ vs) id v h i = (h.0, ids_push ids vs id v h.1 i)

-- where an arena keeps the vertices of another one, ids keep theirs
pub ids_kept : (g h : Arena) → ((id : VertexId) (v : Vertex) → IsVertexOf g id v → IsVertexOf h id v) → (ids : List VertexId) (vs : List Vertex) → AreVerticesOf g ids vs → AreVerticesOf h ids vs
ids_kept g h keep [] [] a = tt
ids_kept g h keep [] (v ∷ vs) a = absurd a
ids_kept g h keep (id ∷ ids) [] a = absurd a
ids_kept g h keep (id ∷ ids) (v ∷ vs) a = (keep id v a.0, ids_kept g h keep ids vs a.1)
