-- The rows of a graph while it grows.
use Rattle.std.proofs.Common.{◌≡◌, ℕ, ◌+◌, ◌<◌, ◌^◌, Bool, true, false, List, [], ◌∷◌, ◌++◌, length, take, drop, slice_get, get_or, Some, None, Contains, sym, ap, ◌∙◌, subst, inl, inr, arith, length-append}
use Rattle.std.proofs.lemmas.Bool.{cases_Bool, eqb-true}
use Rattle.std.proofs.lemmas.List.{map-append, take_all, take-append-le}
use Rattle.flat_core.proofs.Places.{at_push}
use Rattle.graph_core.specs.declared.vertex.Vertex.{Vertex}
use Rattle.graph_core.specs.declared.graph.VertexId.{VertexId}
use Rattle.graph_core.specs.declared.graph.Arrow.{Arrow}
use Rattle.graph_core.specs.declared.links.VertexRow.{VertexRow}
use Rattle.graph_core.specs.declared.links.EdgeRow.{EdgeRow}
use Rattle.std.specs.List.Sorted.{IsPermutation}
use Rattle.graph_core.specs.declared.vertex.EdgeKind.{EdgeKind}
use Rattle.graph_core.specs.Arena.{Arena, IsArena, with_vertex, with_arrows}
use Rattle.graph_core.specs.EdgesAt.{meets, edges_at}
use Rattle.graph_core.specs.Links.{link, vertices_in, arrows_in, arena_in, IsLast, AreFirsts, AreLinked, IsStored, CanFollow, edges_from}
use Rattle.graph_core.proofs.Places.{contains_at, from_map}
use Rattle.graph_core.proofs.Arenas.{arena_vertex}
use Rattle.graph_core.proofs.Linked.{follow_first, follow_all, linked_more, no_edges, length_arrows, length_vertices, arrow_at}

pub arena_same : (vs : List VertexRow) (es : List EdgeRow) (g : Arena) → vertices_in vs ≡ g.vertices → arrows_in es ≡ g.arrows → arena_in vs es ≡ g
arena_same vs es g p q =
    let one : List Vertex → List Arrow → Arena = λ a b. record { vertices = a; arrows = b } in
    ap (λ (a : List Vertex). one a (arrows_in es)) p ∙ ap (λ (b : List Arrow). one g.vertices b) q

pub stored : (vs : List VertexRow) (es : List EdgeRow) (n : ℕ) (g : Arena) → IsArena g → vertices_in vs ≡ g.vertices → arrows_in es ≡ g.arrows → AreLinked vs es n → n ≡ length g.arrows → IsStored vs es
stored vs es n g ok p q linked is = record {
  arena = subst IsArena (sym (arena_same vs es g p q)) ok;
  linked = let l = length_arrows es in let m = ap length q in subst (AreLinked vs es) (let e : n ≡ length es = omega arith in e) linked;
}

-- the ends of an edge are there
pub ends_there : (vs : List VertexRow) (es : List EdgeRow) (i : ℕ) (g : Arena) → IsArena g → vertices_in vs ≡ g.vertices → arrows_in es ≡ g.arrows → (row : EdgeRow) → slice_get es i ≡ Some row → (row.arrow.from.number < length vs) × (row.arrow.to.number < length vs)
ends_there vs es i g ok p q row h =
    let c : Contains g.arrows row.arrow = subst (λ (l : List Arrow). Contains l row.arrow) q (contains_at (arrows_in es) i row.arrow (arrow_at es i row h)) in
    let e = ok.ends row.arrow c in
    let l = length_vertices vs in
    let m = ap length p in
    ((let x = e.0 in omega arith), (let x = e.1 in omega arith))

-- ends stay there where vertices and edges are the same
pub ends_kept : (vs now : List VertexRow) (es es2 : List EdgeRow) → ((i : ℕ) (row : EdgeRow) → slice_get es i ≡ Some row → (row.arrow.from.number < length vs) × (row.arrow.to.number < length vs)) → vertices_in now ≡ vertices_in vs → arrows_in es2 ≡ arrows_in es → (i : ℕ) (row : EdgeRow) → slice_get es2 i ≡ Some row → (row.arrow.from.number < length now) × (row.arrow.to.number < length now)
ends_kept vs now es es2 ends p q i row h =
    let was = from_map (λ (x : EdgeRow). x.arrow) es i row.arrow (ap (λ (l : List Arrow). slice_get l i) (sym q) ∙ arrow_at es2 i row h) in
    let e = subst (λ (x : Arrow). (x.from.number < length vs) × (x.to.number < length vs)) was.2 (ends i was.0 was.1) in
    let a = length_vertices vs in
    let b = length_vertices now in
    let s = ap length p in
    ((let x = e.0 in omega arith), (let x = e.1 in omega arith))

-- rows that are written over the old ones
written : {A : Type 0} (n : ℕ) (new old : List A) → length new ≡ length old → n ≡ length old → take n (new ++ drop (length new) old) ≡ new
written n new old same is = take-append-le n new (drop (length new) old) (omega arith) ∙ take_all n new (omega arith)

pub stored_written : (n m : ℕ) (vs now : List VertexRow) (es es2 : List EdgeRow) → IsStored now es2 → vertices_in now ≡ vertices_in vs → arrows_in es2 ≡ arrows_in es → n ≡ length vs → m ≡ length es → IsStored (take n (now ++ drop (length now) vs)) (take m (es2 ++ drop (length es2) es))
stored_written n m vs now es es2 ok p q nis mis =
    let a = length_vertices vs in
    let b = length_vertices now in
    let s = ap length p in
    let c = length_arrows es in
    let d = length_arrows es2 in
    let t = ap length q in
    let v : take n (now ++ drop (length now) vs) ≡ now = written n now vs (omega arith) nis in
    let e : take m (es2 ++ drop (length es2) es) ≡ es2 = written m es2 es (omega arith) mis in
    subst (λ (x : List VertexRow). IsStored x (take m (es2 ++ drop (length es2) es))) (sym v) (subst (IsStored now) (sym e) ok)

-- two edges
pub two_arrows : (a b : EdgeRow) (x y : Arrow) → a.arrow ≡ x → b.arrow ≡ y → arrows_in (a ∷ b ∷ []) ≡ x ∷ y ∷ []
two_arrows a b x y p q = ap (λ (e : Arrow). e ∷ b.arrow ∷ []) p ∙ ap (λ (e : Arrow). x ∷ e ∷ []) q

-- a vertex more
pub added_vertex : (row : VertexRow) (v : Vertex) (vs : List VertexRow) (es : List EdgeRow) (g : Arena) → row.vertex ≡ v → arena_in vs es ≡ g → arena_in (vs ++ row ∷ []) es ≡ with_vertex g v
added_vertex row v vs es g is view =
    arena_same (vs ++ row ∷ []) es (with_vertex g v)
    (map-append (λ (x : VertexRow). x.vertex) vs (row ∷ []) ∙ ap (λ (x : Vertex). vertices_in vs ++ x ∷ []) is ∙ ap (λ (x : Arena). x.vertices ++ v ∷ []) view)
    (ap (λ (x : Arena). x.arrows) view)

-- it has no edges yet
module _ (vs : List VertexRow) (es : List EdgeRow) (ok : IsStored vs es) (row : VertexRow) (leaving : row.first.leaving ≡ None) (entering : row.first.entering ≡ None) where
  none_meets : (d : Bool) (u : VertexId) → u.number ≡ length vs → (j : ℕ) (e : Arrow) → slice_get (arrows_in es) j ≡ Some e → meets d u e ≡ false
  none_meets d u is j e h = elim (cases_Bool (meets d u e)) [
    | inl m ↦ absurd (far d m)
    | inr m ↦ m
  ]
    where
      ends : (e.from.number < length vs) × (e.to.number < length vs)
      ends = let r = ok.arena.ends e (contains_at (arrows_in es) j e h) in let l = length_vertices vs in ((let x = r.0 in omega arith), (let x = r.1 in omega arith))

      far : (d : Bool) → meets d u e ≡ true → ⊥
      far true m = let s = eqb-true e.to.number u.number m in let x = ends.1 in omega arith
      far false m = let s = eqb-true e.from.number u.number m in let x = ends.0 in omega arith

  last_none : (d : Bool) (u : VertexId) → u.number ≡ length vs → IsLast d u (arrows_in es) (length es) (link d row.first)
  last_none d u is = subst (IsLast d u (arrows_in es) (length es)) (sym (empty d)) (ap (edges_at d u) all ∙ no_edges d u (arrows_in es) (none_meets d u is))
    where
      empty : (d : Bool) → link d row.first ≡ None
      empty true = entering
      empty false = leaving

      all : take (length es) (arrows_in es) ≡ arrows_in es
      all = let l = length_arrows es in take_all (length es) (arrows_in es) (omega arith)

  first : AreFirsts (vs ++ row ∷ []) es (length es)
  first d u now h = elim (at_push vs row u.number now h) [
    | inl a ↦ ok.linked.firsts d u now a.1
    | inr a ↦ subst (λ (x : VertexRow). IsLast d u (arrows_in es) (length es) (link d x.first)) a.1 (last_none d u a.0)
  ]

  pub stored_vertex : (v : Vertex) (g : Arena) → row.vertex ≡ v → arena_in vs es ≡ g → ¬ Contains g.vertices v → length g.vertices + 1 < 2 ^ 32 → IsStored (vs ++ row ∷ []) es
  stored_vertex v g is view fresh room =
      let now = added_vertex row v vs es g is view in
      record {
        arena = subst IsArena (sym now) (arena_vertex g v (subst IsArena view ok.arena) fresh room);
        linked = record { within = ok.linked.within; firsts = first; nexts = ok.linked.nexts };
      }

-- the edges of a vertex from its row on
module _ (d : Bool) (v : VertexId) (vs : List VertexRow) (es : List EdgeRow) (g : Arena) (view : arena_in vs es ≡ g) (ok : IsStored vs es) (there : v.number < length g.vertices) (row : VertexRow) (read : row ≡ get_or vs v.number row) (xs : List EdgeRow) (same : xs ≡ es) where
  within : v.number < length vs
  within = let a = ap (λ (x : Arena). length x.vertices) view in let l = length_vertices vs in omega arith

  pub can_follow : CanFollow d v xs (link d row.first)
  can_follow =
      subst (λ (x : List EdgeRow). CanFollow d v x (link d row.first)) (sym same)
      (subst (λ (r : VertexRow). CanFollow d v es (link d r.first)) (sym read) (follow_first d v vs es row within ok.linked))

  pub gives_all : (left : List (VertexId × EdgeKind)) → left ≡ edges_from d v xs (link d row.first) → IsPermutation (edges_at d v g.arrows) left
  gives_all left is =
      let all : left ≡ edges_from d v es (link d (get_or vs v.number row).first) =
      is ∙ ap (λ (x : List EdgeRow). edges_from d v x (link d row.first)) same ∙ ap (λ (r : VertexRow). edges_from d v es (link d r.first)) read in
      subst (λ (x : Arena). IsPermutation (edges_at d v x.arrows) left) view
      (subst (IsPermutation (edges_at d v (arrows_in es))) (sym all) (follow_all d v vs es row within ok.linked))

-- some edges more, which are linked one by one
module _ (vs : List VertexRow) (es : List EdgeRow) (g : Arena) (view : arena_in vs es ≡ g) (ok : IsStored vs es) (more : List EdgeRow) (arrows : List Arrow) (are : arrows_in more ≡ arrows) (arena : IsArena (with_arrows g arrows)) where
  arrows_are : arrows_in (es ++ more) ≡ g.arrows ++ arrows
  arrows_are = map-append (λ (x : EdgeRow). x.arrow) es more ∙ ap (λ (l : List Arrow). arrows_in es ++ l) are ∙ ap (λ (x : Arena). x.arrows ++ arrows) view

  pub more_linked : AreLinked vs (es ++ more) (length es)
  more_linked = linked_more vs es more (length es) ok.linked

  module _ (vs2 : List VertexRow) (es2 : List EdgeRow) (vertices_same : vertices_in vs2 ≡ vertices_in vs) (arrows_same : arrows_in es2 ≡ arrows_in (es ++ more)) where
    vertices_now : vertices_in vs2 ≡ g.vertices
    vertices_now = vertices_same ∙ ap (λ (x : Arena). x.vertices) view

    pub more_ends : (i : ℕ) (row : EdgeRow) → slice_get es2 i ≡ Some row → (row.arrow.from.number < length vs2) × (row.arrow.to.number < length vs2)
    more_ends i row h = ends_there vs2 es2 i (with_arrows g arrows) arena vertices_now (arrows_same ∙ arrows_are) row h

    pub more_stored : (n : ℕ) → AreLinked vs2 es2 n → n ≡ length es + length more → IsStored vs2 es2
    more_stored n linked is =
        let a = ap length arrows_are in
        let b = length_arrows (es ++ more) in
        let l = length-append es more in
        stored vs2 es2 n (with_arrows g arrows) arena vertices_now (arrows_same ∙ arrows_are) linked (omega arith)

    pub more_added : arena_in vs2 es2 ≡ with_arrows g arrows
    more_added = arena_same vs2 es2 (with_arrows g arrows) vertices_now (arrows_same ∙ arrows_are)
