-- One more vertex in the making of a circuit graph.
use Rattle.std.proofs.Common.{◌≡◌, ℕ, suc, ◌+◌, ◌-◌, ◌<◌, ◌≤◌, ◌⊎◌, ◌↔◌, Bool, true, false, cond, List, [], ◌∷◌, ◌++◌, length, get_or, slice_get, slice_set, Option, Some, None, Contains, refl, sym, ap, ◌∙◌, subst, inl, inr, arith, length-append, length-set, get_or-set_same, get_or-set_other, add-zero}
use Rattle.std.proofs.lemmas.Bool.{cases_eq, ne_eqb}
use Rattle.std.proofs.lemmas.Option.{same_Some, slice_get_within}
use Rattle.std.proofs.lemmas.List.Elements.{Contains-push, Contains-push_cases, Contains-append_left, Contains-append_right, Contains-append_cases}
use Rattle.flat_core.specs.declared.step.WireId.{WireId}
use Rattle.flat_core.specs.declared.step.StepId.{StepId}
use Rattle.flat_core.specs.Form.{FlatForm}
use Rattle.flat_core.specs.Label.{same_wire, wire_id}
use Rattle.flat_core.proofs.Labels.{same_wire_is, same_wire-refl}
use Rattle.flat_core.proofs.Places.{at_push}
use Rattle.graph_core.specs.declared.vertex.Vertex.{Vertex}
use Rattle.graph_core.specs.declared.vertex.Vertex.TheVariants.{Forward}
use Rattle.graph_core.specs.declared.vertex.EdgeKind.{EdgeKind}
use Rattle.graph_core.specs.declared.vertex.EdgeKind.TheVariants.{Target, Control, Availability}
use Rattle.graph_core.specs.declared.graph.VertexId.{VertexId}
use Rattle.graph_core.specs.declared.graph.Arrow.{Arrow}
use Rattle.graph_core.specs.Arena.{Arena, IsArena, IsVertexOf, AreVerticesOf, with_vertex, with_arrows}
use Rattle.graph_core.proofs.Places.{some_at, at_left, at_right, contains_at}
use Rattle.unqomp.specs.GraphOf.{HasArrowOf, HasVertices, HasEdges}
use Rattle.unqomp.specs.Making.{vertex_id, ids_on, IsAlong, StandsOnce, IsStage}
use Rattle.unqomp.specs.Linking.{last_of, target_arrow, target_arrows, linked, IsLinkable}
use Rattle.unqomp.proofs.Ids.{length-ids, vertex_at, id_at, ids_push, ids_kept}

pub contains_nil : {A : Type 0} (x : A) → ¬ Contains [] x
contains_nil x c = let l = c.1 in omega arith

pub contains_one : {A : Type 0} (a x : A) → Contains (a ∷ []) x → a ≡ x
contains_one a x c = elim (Contains-push_cases [] a x c) [ inl n ↦ absurd (contains_nil x n) | inr e ↦ e ]

-- the vertex of an id that is there
pub vertex_there : (g : Arena) (id : VertexId) → id.number < length g.vertices → (v : Vertex) × IsVertexOf g id v
vertex_there g id h = some_at g.vertices id.number h

-- the last vertex of a chain may be linked to another
module _ (f : FlatForm) (g : Arena) (chains : List (List VertexId)) (forwards most : ℕ) (IsOne : Vertex → Type 0) (on : WireId → List Vertex) (ok : IsArena g) (st : IsStage f g chains forwards most IsOne on) (w : WireId) (there : w.number < length f.wires) where
  pub linkable : IsLinkable g (ids_on chains w)
  linkable = record {
    there = λ before e. let v = vertex_at g (ids_on chains w) (on w) (st.each w there) (length (ids_on chains w) - 1) before e in slice_get_within g.vertices before.number v.0 v.2;
    free = λ before e d c t same.
        let v = vertex_at g (ids_on chains w) (on w) (st.each w there) (length (ids_on chains w) - 1) before e in
        let from : IsVertexOf g d.from v.0 = ap (λ (id : VertexId). slice_get g.vertices id.number) same ∙ v.2 in
        let b = vertex_there g d.to (ok.ends d c).1 in
        let a = (st.edges Target v.0 b.0).0 (record { arrow = d; there = c; is_kind = t; from = from; to = b.1 }) in
        let o = st.once a.0 w a.1 (length (ids_on chains w) - 1) v.0 a.2 v.1 in
        let next : slice_get (on w) (suc a.1) ≡ Some b.0 = ap (λ (x : WireId). slice_get (on x) (suc a.1)) (sym o.0) ∙ a.3 in
        let short : suc a.1 < length (on w) = slice_get_within (on w) (suc a.1) b.0 next in
        let long = length-ids g (ids_on chains w) (on w) (st.each w there) in
        let at = o.1 in
        omega arith;
  }

-- a vertex v is added at the end of the chain of w
module _ (on : WireId → List Vertex) (w : WireId) (v : Vertex) where
  abbrev pub on_more : WireId → List Vertex
  on_more x = cond (same_wire w x) (on x ++ v ∷ []) (on x)

  pub on_same : on_more w ≡ on w ++ v ∷ []
  on_same = ap (λ (b : Bool). cond b (on w ++ v ∷ []) (on w)) (same_wire-refl w)

  pub on_other : (x : WireId) → same_wire w x ≡ false → on_more x ≡ on x
  on_other x e = ap (λ (b : Bool). cond b (on x ++ v ∷ []) (on x)) e

  pub old_place : (x : WireId) (i : ℕ) (y : Vertex) → slice_get (on x) i ≡ Some y → slice_get (on_more x) i ≡ Some y
  old_place x i y h = go (same_wire w x)
    where
      go : (b : Bool) → slice_get (cond b (on x ++ v ∷ []) (on x)) i ≡ Some y
      go true = at_left (on x) (v ∷ []) i y h
      go false = h

  pub new_place : slice_get (on_more w) (length (on w)) ≡ Some v
  new_place = ap (λ (l : List Vertex). slice_get l (length (on w))) on_same ∙ ap (λ (n : ℕ). slice_get (on w ++ v ∷ []) n) (sym (add-zero (length (on w)))) ∙ at_right (on w) (v ∷ []) 0 v refl

  pub place_cases : (x : WireId) (i : ℕ) (y : Vertex) → slice_get (on_more x) i ≡ Some y → (slice_get (on x) i ≡ Some y) ⊎ ((w ≡ x) × (i ≡ length (on w)) × (v ≡ y))
  place_cases x i y h = go (same_wire w x) refl h
    where
      go : (b : Bool) → same_wire w x ≡ b → slice_get (cond b (on x ++ v ∷ []) (on x)) i ≡ Some y → (slice_get (on x) i ≡ Some y) ⊎ ((w ≡ x) × (i ≡ length (on w)) × (v ≡ y))
      go true e h =
          let same : w ≡ x = same_wire_is w x e in
          elim (at_push (on x) v i y h) [
            | inl l ↦ inl l.1
            | inr r ↦ inr (same, r.0 ∙ ap (λ (z : WireId). length (on z)) (sym same), r.1)
          ]
      go false e h = inl h

  -- a vertex that stood nowhere makes no vertex stand twice
  pub once_more : StandsOnce on → ((x : WireId) (i : ℕ) → slice_get (on x) i ≡ Some v → ⊥) → StandsOnce on_more
  once_more once nowhere x z i j y p q = go (place_cases x i y p) (place_cases z j y q)
    where
      go : (slice_get (on x) i ≡ Some y) ⊎ ((w ≡ x) × (i ≡ length (on w)) × (v ≡ y)) → (slice_get (on z) j ≡ Some y) ⊎ ((w ≡ z) × (j ≡ length (on w)) × (v ≡ y)) → (x ≡ z) × (i ≡ j)
      go (inl a) (inl b) = once x z i j y a b
      go (inl a) (inr b) = absurd (nowhere x i (a ∙ ap (λ (u : Vertex). Some u) (sym b.2)))
      go (inr a) (inl b) = absurd (nowhere z j (b ∙ ap (λ (u : Vertex). Some u) (sym a.2)))
      go (inr a) (inr b) = (sym a.0 ∙ b.0, a.1 ∙ sym b.1)

-- an arena with one vertex more has the vertices of before under their ids, and the new one under the next id
module _ (g : Arena) (v : Vertex) where
  pub vertex_kept : (id : VertexId) (y : Vertex) → IsVertexOf g id y → IsVertexOf (with_vertex g v) id y
  vertex_kept id y h = at_left g.vertices (v ∷ []) id.number y h

  pub vertex_new : IsVertexOf (with_vertex g v) (vertex_id (length g.vertices)) v
  vertex_new = ap (λ (n : ℕ). slice_get (g.vertices ++ v ∷ []) n) (sym (add-zero (length g.vertices))) ∙ at_right g.vertices (v ∷ []) 0 v refl

  pub vertex_back : (id : VertexId) (y : Vertex) → id.number < length g.vertices → IsVertexOf (with_vertex g v) id y → IsVertexOf g id y
  vertex_back id y l h = elim (at_push g.vertices v id.number y h) [
    | inl a ↦ a.1
    | inr a ↦ let e = a.0 in absurd (omega arith)
  ]

  pub vertex_last : (id : VertexId) (y : Vertex) → id.number ≡ length g.vertices → IsVertexOf (with_vertex g v) id y → v ≡ y
  vertex_last id y e h = elim (at_push g.vertices v id.number y h) [
    | inl a ↦ let l = a.0 in absurd (omega arith)
    | inr a ↦ a.1
  ]

  pub vertices_more : (IsOne : Vertex → Type 0) → HasVertices g IsOne → HasVertices (with_vertex g v) (λ x. IsOne x ⊎ (v ≡ x))
  vertices_more IsOne h x = (
    λ c. elim (Contains-push_cases g.vertices v x c) [ inl a ↦ inl ((h x).0 a) | inr e ↦ inr e ],
    λ o. elim o [
      | inl a ↦ Contains-append_left g.vertices (v ∷ []) x ((h x).1 a)
      | inr e ↦ subst (Contains (g.vertices ++ v ∷ [])) e (Contains-push g.vertices v)
    ],
  )

module _ (f : FlatForm) (g : Arena) (chains : List (List VertexId)) (forwards most : ℕ) (IsOne : Vertex → Type 0) (on : WireId → List Vertex) (ok : IsArena g) (st : IsStage f g chains forwards most IsOne on) (v : Vertex) (fresh : ¬ IsOne v) where
  -- the vertices of the ends of an edge of before are those of before
  old_arrow : (more : List Arrow) (kind : EdgeKind) (a b : Vertex) (e : Arrow) → Contains g.arrows e → e.kind ≡ kind → IsVertexOf (with_vertex g v) e.from a → IsVertexOf (with_vertex g v) e.to b → HasArrowOf g kind a b
  old_arrow more kind a b e c k p q = record {
    arrow = e;
    there = c;
    is_kind = k;
    from = vertex_back g v e.from a (ok.ends e c).0 p;
    to = vertex_back g v e.to b (ok.ends e c).1 q;
  }

  kept_arrow : (more : List Arrow) (kind : EdgeKind) (a b : Vertex) → HasArrowOf g kind a b → HasArrowOf (with_arrows (with_vertex g v) more) kind a b
  kept_arrow more kind a b h = record {
    arrow = h.arrow;
    there = Contains-append_left g.arrows more h.arrow h.there;
    is_kind = h.is_kind;
    from = vertex_kept g v h.arrow.from a h.from;
    to = vertex_kept g v h.arrow.to b h.to;
  }

  nowhere : (x : WireId) (i : ℕ) → slice_get (on x) i ≡ Some v → ⊥
  nowhere x i h = fresh (st.on_is_there x i v h)

  -- a vertex that stands on no chain
  pub stage_lone : IsStage f (with_vertex g v) chains forwards (most + 1) (λ x. IsOne x ⊎ (v ≡ x)) on
  stage_lone =
      let longer = length-append g.vertices (v ∷ []) in
      let few = st.few in
      let few_edges = st.few_edges in
      record {
        vertices = vertices_more g v IsOne st.vertices;
        numbered = λ s h. vertex_kept g v (vertex_id s.number) (Forward s) (st.numbered s h);
        few = omega arith;
        few_edges = omega arith;
        as_many = st.as_many;
        each = λ x h. ids_kept g (with_vertex g v) (vertex_kept g v) (ids_on chains x) (on x) (st.each x h);
        edges = λ kind a b. (
          λ h. (st.edges kind a b).0 (old_arrow [] kind a b h.arrow h.there h.is_kind h.from h.to),
          λ h. let o = (st.edges kind a b).1 h in record { arrow = o.arrow; there = o.there; is_kind = o.is_kind; from = vertex_kept g v o.arrow.from a o.from; to = vertex_kept g v o.arrow.to b o.to },
        );
        on_is_there = λ x i y h. inl (st.on_is_there x i y h);
        once = st.once;
      }

  -- a vertex at the end of the chain of w
  module _ (w : WireId) (there : w.number < length f.wires) where
    abbrev new_id : VertexId
    new_id = vertex_id (length g.vertices)

    abbrev more : List Arrow
    more = target_arrows (last_of (ids_on chains w)) new_id

    -- the new edge comes from the last vertex of the chain
    new_edge : (before : Option VertexId) → last_of (ids_on chains w) ≡ before → (kind : EdgeKind) (a b : Vertex) (e : Arrow) → Contains (target_arrows before new_id) e → e.kind ≡ kind → IsVertexOf (with_vertex g v) e.from a → IsVertexOf (with_vertex g v) e.to b → IsAlong (on_more on w v) kind a b
    new_edge None is kind a b e c k p q = absurd (contains_nil e c)
    new_edge (Some before) is kind a b e c k p q =
        let same : target_arrow before new_id ≡ e = contains_one (target_arrow before new_id) e c in
        let last = vertex_at g (ids_on chains w) (on w) (st.each w there) (length (ids_on chains w) - 1) before is in
        let from : IsVertexOf (with_vertex g v) before a = ap (λ (x : Arrow). slice_get (g.vertices ++ v ∷ []) x.from.number) same ∙ p in
        let a_is : a ≡ last.0 = same_Some a last.0 (sym from ∙ vertex_kept g v before last.0 last.2) in
        let b_is : v ≡ b = vertex_last g v e.to b (ap (λ (x : Arrow). x.to.number) (sym same)) q in
        let long = length-ids g (ids_on chains w) (on w) (st.each w there) in
        let within : length (ids_on chains w) - 1 < length (on w) = slice_get_within (on w) (length (ids_on chains w) - 1) last.0 last.1 in
        let next : suc (length (ids_on chains w) - 1) ≡ length (on w) = omega arith in
        subst (λ (z : EdgeKind). IsAlong (on_more on w v) z a b) (ap (λ (x : Arrow). x.kind) same ∙ k) (
          w,
          length (ids_on chains w) - 1,
          old_place on w v w (length (ids_on chains w) - 1) a (last.1 ∙ ap (λ (x : Vertex). Some x) (sym a_is)),
          ap (λ (n : ℕ). slice_get (on_more on w v w) n) next ∙ new_place on w v ∙ ap (λ (x : Vertex). Some x) b_is,
        )

    -- an edge along the new chains is there
    along_target : (a b : Vertex) → IsAlong (on_more on w v) Target a b → HasArrowOf (linked g (ids_on chains w) v) Target a b
    along_target a b h = go (place_cases on w v h.0 h.1 a h.2) (place_cases on w v h.0 (suc h.1) b h.3)
      where
        go : (slice_get (on h.0) h.1 ≡ Some a) ⊎ ((w ≡ h.0) × (h.1 ≡ length (on w)) × (v ≡ a)) → (slice_get (on h.0) (suc h.1) ≡ Some b) ⊎ ((w ≡ h.0) × (suc h.1 ≡ length (on w)) × (v ≡ b)) → HasArrowOf (linked g (ids_on chains w) v) Target a b
        go (inl p) (inl q) = kept_arrow more Target a b ((st.edges Target a b).1 (h.0, h.1, p, q))
        go (inl p) (inr q) =
            let at : slice_get (on w) h.1 ≡ Some a = ap (λ (x : WireId). slice_get (on x) h.1) q.0 ∙ p in
            let id = id_at g (ids_on chains w) (on w) (st.each w there) h.1 a at in
            let long = length-ids g (ids_on chains w) (on w) (st.each w there) in
            let place : h.1 ≡ length (ids_on chains w) - 1 = (let n = q.1 in omega arith) in
            let last : last_of (ids_on chains w) ≡ Some id.0 = ap (λ (n : ℕ). slice_get (ids_on chains w) n) (sym place) ∙ id.1 in
            record {
              arrow = target_arrow id.0 new_id;
              there = Contains-append_right g.arrows more (target_arrow id.0 new_id) (subst (λ (o : Option VertexId). Contains (target_arrows o new_id) (target_arrow id.0 new_id)) (sym last) (contains_at (target_arrow id.0 new_id ∷ []) 0 (target_arrow id.0 new_id) refl));
              is_kind = refl;
              from = vertex_kept g v id.0 a id.2;
              to = vertex_new g v ∙ ap (λ (x : Vertex). Some x) q.2;
            }
        go (inr p) (inl q) =
            let short : suc h.1 < length (on w) = subst (λ (x : WireId). suc h.1 < length (on x)) (sym p.0) (slice_get_within (on h.0) (suc h.1) b q) in
            let e = p.1 in
            absurd (omega arith)
        go (inr p) (inr q) = let e = p.1 in let n = q.1 in absurd (omega arith)

    edges_more : HasEdges (linked g (ids_on chains w) v) (IsAlong (on_more on w v))
    edges_more kind a b = (into, back kind)
      where
        grow : (k : EdgeKind) → IsAlong on k a b → IsAlong (on_more on w v) k a b
        grow Target h = (h.0, h.1, old_place on w v h.0 h.1 a h.2, old_place on w v h.0 (suc h.1) b h.3)
        grow Control h = h
        grow Availability h = h

        into : HasArrowOf (linked g (ids_on chains w) v) kind a b → IsAlong (on_more on w v) kind a b
        into h = elim (Contains-append_cases g.arrows more h.arrow h.there) [
          | inl c ↦ grow kind ((st.edges kind a b).0 (old_arrow [] kind a b h.arrow c h.is_kind h.from h.to))
          | inr c ↦ new_edge (last_of (ids_on chains w)) refl kind a b h.arrow c h.is_kind h.from h.to
        ]

        back : (k : EdgeKind) → IsAlong (on_more on w v) k a b → HasArrowOf (linked g (ids_on chains w) v) k a b
        back Target h = along_target a b h
        back Control h = absurd h
        back Availability h = absurd h

    length-more : (o : Option VertexId) → length (target_arrows o new_id) ≤ 1
    length-more None = omega arith
    length-more (Some before) = omega arith

    each_more : (x : WireId) → x.number < length f.wires → AreVerticesOf (linked g (ids_on chains w) v) (ids_on (slice_set chains w.number (ids_on chains w ++ new_id ∷ [])) x) (on_more on w v x)
    each_more x h =
        let as_many = st.as_many in
        elim (cases_eq x.number w.number) [
          | inl e ↦
              let same : w ≡ x = ap wire_id (sym e) in
              let new : AreVerticesOf (linked g (ids_on chains w) v) (ids_on chains w ++ new_id ∷ []) (on_more on w v w) =
              subst (AreVerticesOf (linked g (ids_on chains w) v) (ids_on chains w ++ new_id ∷ [])) (sym (on_same on w v))
              (ids_push (linked g (ids_on chains w) v) (ids_on chains w) (on w) new_id v (ids_kept g (linked g (ids_on chains w) v) (vertex_kept g v) (ids_on chains w) (on w) (st.each w there)) (vertex_new g v)) in
              let read : get_or (slice_set chains w.number (ids_on chains w ++ new_id ∷ [])) w.number [] ≡ ids_on chains w ++ new_id ∷ [] = get_or-set_same chains w.number (ids_on chains w ++ new_id ∷ []) [] (omega arith) in
              subst (λ (z : WireId). AreVerticesOf (linked g (ids_on chains w) v) (ids_on (slice_set chains w.number (ids_on chains w ++ new_id ∷ [])) z) (on_more on w v z)) same
              (subst (λ (l : List VertexId). AreVerticesOf (linked g (ids_on chains w) v) l (on_more on w v w)) (sym read) new)
          | inr d ↦
              let other : on_more on w v x ≡ on x = on_other on w v x (ne_eqb w.number x.number (λ e. d (sym e))) in
              let read : get_or (slice_set chains w.number (ids_on chains w ++ new_id ∷ [])) x.number [] ≡ ids_on chains x = get_or-set_other chains w.number x.number (ids_on chains w ++ new_id ∷ []) [] d in
              let old : AreVerticesOf (linked g (ids_on chains w) v) (ids_on chains x) (on x) = ids_kept g (linked g (ids_on chains w) v) (vertex_kept g v) (ids_on chains x) (on x) (st.each x h) in
              subst (AreVerticesOf (linked g (ids_on chains w) v) (ids_on (slice_set chains w.number (ids_on chains w ++ new_id ∷ [])) x)) (sym other)
              (subst (λ (l : List VertexId). AreVerticesOf (linked g (ids_on chains w) v) l (on x)) (sym read) old)
        ]

    pub stage_more : IsStage f (linked g (ids_on chains w) v) (slice_set chains w.number (ids_on chains w ++ new_id ∷ [])) forwards (most + 1) (λ x. IsOne x ⊎ (v ≡ x)) (on_more on w v)
    stage_more =
        let longer = length-append g.vertices (v ∷ []) in
        let longer_edges = length-append g.arrows more in
        let one = length-more (last_of (ids_on chains w)) in
        let few = st.few in
        let few_edges = st.few_edges in
        record {
          vertices = vertices_more g v IsOne st.vertices;
          numbered = λ s h. vertex_kept g v (vertex_id s.number) (Forward s) (st.numbered s h);
          few = omega arith;
          few_edges = omega arith;
          as_many = length-set chains w.number (ids_on chains w ++ new_id ∷ []) ∙ st.as_many;
          each = each_more;
          edges = edges_more;
          on_is_there = λ x i y h. elim (place_cases on w v x i y h) [ inl a ↦ inl (st.on_is_there x i y a) | inr a ↦ inr a.2 ];
          once = once_more on w v st.once nowhere;
        }

-- a stage told in other words
pub stage_same : (f : FlatForm) (g : Arena) (chains : List (List VertexId)) (forwards most others : ℕ) (IsOne IsOther : Vertex → Type 0) (on off : WireId → List Vertex)
    → most ≤ others → ((v : Vertex) → IsOne v ↔ IsOther v) → ((w : WireId) → on w ≡ off w)
    → IsStage f g chains forwards most IsOne on → IsStage f g chains forwards others IsOther off
stage_same f g chains forwards most others IsOne IsOther on off le one same st = record {
  vertices = λ v. (λ c. (one v).0 ((st.vertices v).0 c), λ o. (st.vertices v).1 ((one v).1 o));
  numbered = st.numbered;
  few = (let few = st.few in omega arith);
  few_edges = st.few_edges;
  as_many = st.as_many;
  each = λ w h. subst (AreVerticesOf g (ids_on chains w)) (same w) (st.each w h);
  edges = λ kind a b. (λ h. over kind a b ((st.edges kind a b).0 h), λ h. (st.edges kind a b).1 (back kind a b h));
  on_is_there = λ w i v h. (one v).0 (st.on_is_there w i v (read w i v h));
  once = λ w x i j v p q. st.once w x i j v (read w i v p) (read x j v q);
}
  where
    read : (w : WireId) (i : ℕ) (v : Vertex) → slice_get (off w) i ≡ Some v → slice_get (on w) i ≡ Some v
    read w i v h = ap (λ (l : List Vertex). slice_get l i) (same w) ∙ h

    over : (kind : EdgeKind) (a b : Vertex) → IsAlong on kind a b → IsAlong off kind a b
    over Target a b h = (h.0, h.1, ap (λ (l : List Vertex). slice_get l h.1) (sym (same h.0)) ∙ h.2, ap (λ (l : List Vertex). slice_get l (suc h.1)) (sym (same h.0)) ∙ h.3)
    over Control a b h = h
    over Availability a b h = h

    back : (kind : EdgeKind) (a b : Vertex) → IsAlong off kind a b → IsAlong on kind a b
    back Target a b h = (h.0, h.1, read h.0 h.1 a h.2, read h.0 (suc h.1) b h.3)
    back Control a b h = h
    back Availability a b h = h

-- a stage with more vertices known by their numbers
pub number : {f : FlatForm} {forwards most : ℕ} {IsOne : Vertex → Type 0} {on : WireId → List Vertex} (others : ℕ) (g : Arena) (chains : List (List VertexId)) → IsStage f g chains forwards most IsOne on → ((s : StepId) → s.number < others → IsVertexOf g (vertex_id s.number) (Forward s)) → IsStage f g chains others most IsOne on
number others g chains st numbered = record {
  vertices = st.vertices;
  numbered = numbered;
  few = st.few;
  few_edges = st.few_edges;
  as_many = st.as_many;
  each = st.each;
  edges = st.edges;
  on_is_there = st.on_is_there;
  once = st.once;
}
