-- Edges of a level's graph, copied one by one.
use Rattle.std.proofs.Common.{◌≡◌, ◌↔◌, ℕ, ◌<◌, ◌⊎◌, Bool, true, false, cond, eqb, List, [], ◌∷◌, length, slice_get, get_or, Option, Some, None, Contains, refl, sym, ap, ◌∙◌, subst, inl, inr}
use Rattle.std.specs.List.Sorted.{IsPermutation}
use Rattle.std.proofs.lemmas.Bool.{eqb-true, eq-eqb, both_ways}
use Rattle.std.proofs.lemmas.List.Sorted.{IsPermutation-sym, Contains-permutation}
use Rattle.std.proofs.lemmas.Option.{same_Some, none-some, slice_get_within}
use Rattle.flat_core.specs.declared.step.WireId.{WireId}
use Rattle.flat_core.specs.Form.{FlatForm}
use Rattle.graph_core.specs.declared.vertex.Vertex.{Vertex}
use Rattle.graph_core.specs.declared.vertex.EdgeKind.{EdgeKind}
use Rattle.graph_core.specs.declared.vertex.EdgeKind.TheVariants.{Target, Availability}
use Rattle.graph_core.specs.declared.graph.VertexId.{VertexId}
use Rattle.graph_core.specs.declared.graph.Arrow.{Arrow}
use Rattle.graph_core.specs.Arena.{Arena, IsArena, IsVertexOf}
use Rattle.graph_core.specs.EdgesAt.{edges_at}
use Rattle.graph_core.specs.Circuit.{Uses, Edge}
use Rattle.graph_core.proofs.Places.{place_of, at_unique, some_at}
use Rattle.topo_order.proofs.Orders.{contains_nil, contains_cases, contains_here, contains_later}
use Rattle.unqomp.specs.GraphOf.{HasArrowOf, IsGraphOf}
use Rattle.reqomp.specs.Contracted.{TakenEdge, own_edge, before_again, after_again}
use Rattle.reqomp.specs.Growing.{IsIdTable, arrow_of, HasGrown, IsSoundFor, IsCopied, MayCopyBefore, MayCopyAfter, HasCopiedBefore, HasCopiedAfter}

-- the edges at a vertex are those of the arena that enter or leave it
pub same_id : (a b : VertexId) → a.number ≡ b.number → a ≡ b
same_id a b e = ap (λ (n : ℕ). record { number = n }) e

entering_there : (v : VertexId) (arrows : List Arrow) (u : VertexId) (kind : EdgeKind) → Contains (edges_at true v arrows) (u, kind) → Contains arrows (arrow_of u v kind)
entering_there v [] u kind c = absurd (contains_nil _ c)
entering_there v (e ∷ rest) u kind c = go (eqb e.to.number v.number) refl c (entering_there v rest u kind)
  where
    go : (b : Bool) → eqb e.to.number v.number ≡ b → Contains (cond b ((e.from, e.kind) ∷ edges_at true v rest) (edges_at true v rest)) (u, kind) → (Contains (edges_at true v rest) (u, kind) → Contains rest (arrow_of u v kind)) → Contains (e ∷ rest) (arrow_of u v kind)
    go true t c ih = elim (contains_cases (e.from, e.kind) (u, kind) (edges_at true v rest) c) [
      | inl s ↦
          let to : e.to ≡ v = same_id e.to v (eqb-true e.to.number v.number t) in
          contains_here e (arrow_of u v kind) rest (λ i. record { from = (s i).0; to = to i; kind = (s i).1 })
      | inr d ↦ contains_later e (arrow_of u v kind) rest (ih d)
    ]
    go false t c ih = contains_later e (arrow_of u v kind) rest (ih c)

there_entering : (v : VertexId) (arrows : List Arrow) (u : VertexId) (kind : EdgeKind) → Contains arrows (arrow_of u v kind) → Contains (edges_at true v arrows) (u, kind)
there_entering v [] u kind c = absurd (contains_nil _ c)
there_entering v (e ∷ rest) u kind c = go (eqb e.to.number v.number) refl (contains_cases e (arrow_of u v kind) rest c) (there_entering v rest u kind)
  where
    go : (b : Bool) → eqb e.to.number v.number ≡ b → (e ≡ arrow_of u v kind) ⊎ Contains rest (arrow_of u v kind) → (Contains rest (arrow_of u v kind) → Contains (edges_at true v rest) (u, kind)) → Contains (cond b ((e.from, e.kind) ∷ edges_at true v rest) (edges_at true v rest)) (u, kind)
    go true t (inl s) ih = contains_here (e.from, e.kind) (u, kind) (edges_at true v rest) (λ i. ((s i).from, (s i).kind))
    go true t (inr d) ih = contains_later (e.from, e.kind) (u, kind) (edges_at true v rest) (ih d)
    go false t (inl s) ih = absurd (both_ways (eqb e.to.number v.number) t (eq-eqb e.to.number v.number (ap (λ (x : Arrow). x.to.number) s)))
    go false t (inr d) ih = ih d

leaving_there : (v : VertexId) (arrows : List Arrow) (u : VertexId) (kind : EdgeKind) → Contains (edges_at false v arrows) (u, kind) → Contains arrows (arrow_of v u kind)
leaving_there v [] u kind c = absurd (contains_nil _ c)
leaving_there v (e ∷ rest) u kind c = go (eqb e.from.number v.number) refl c (leaving_there v rest u kind)
  where
    go : (b : Bool) → eqb e.from.number v.number ≡ b → Contains (cond b ((e.to, e.kind) ∷ edges_at false v rest) (edges_at false v rest)) (u, kind) → (Contains (edges_at false v rest) (u, kind) → Contains rest (arrow_of v u kind)) → Contains (e ∷ rest) (arrow_of v u kind)
    go true t c ih = elim (contains_cases (e.to, e.kind) (u, kind) (edges_at false v rest) c) [
      | inl s ↦
          let from : e.from ≡ v = same_id e.from v (eqb-true e.from.number v.number t) in
          contains_here e (arrow_of v u kind) rest (λ i. record { from = from i; to = (s i).0; kind = (s i).1 })
      | inr d ↦ contains_later e (arrow_of v u kind) rest (ih d)
    ]
    go false t c ih = contains_later e (arrow_of v u kind) rest (ih c)

there_leaving : (v : VertexId) (arrows : List Arrow) (u : VertexId) (kind : EdgeKind) → Contains arrows (arrow_of v u kind) → Contains (edges_at false v arrows) (u, kind)
there_leaving v [] u kind c = absurd (contains_nil _ c)
there_leaving v (e ∷ rest) u kind c = go (eqb e.from.number v.number) refl (contains_cases e (arrow_of v u kind) rest c) (there_leaving v rest u kind)
  where
    go : (b : Bool) → eqb e.from.number v.number ≡ b → (e ≡ arrow_of v u kind) ⊎ Contains rest (arrow_of v u kind) → (Contains rest (arrow_of v u kind) → Contains (edges_at false v rest) (u, kind)) → Contains (cond b ((e.to, e.kind) ∷ edges_at false v rest) (edges_at false v rest)) (u, kind)
    go true t (inl s) ih = contains_here (e.to, e.kind) (u, kind) (edges_at false v rest) (λ i. ((s i).to, (s i).kind))
    go true t (inr d) ih = contains_later (e.to, e.kind) (u, kind) (edges_at false v rest) (ih d)
    go false t (inl s) ih = absurd (both_ways (eqb e.from.number v.number) t (eq-eqb e.from.number v.number (ap (λ (x : Arrow). x.from.number) s)))
    go false t (inr d) ih = ih d

-- the same of a list of these edges in another order
pub listed_entering : (v : VertexId) (arrows : List Arrow) (list : List (VertexId × EdgeKind)) (u : VertexId) (kind : EdgeKind) → IsPermutation (edges_at true v arrows) list → Contains list (u, kind) ↔ Contains arrows (arrow_of u v kind)
listed_entering v arrows list u kind p = (
  (λ c. entering_there v arrows u kind (Contains-permutation list (edges_at true v arrows) (u, kind) (IsPermutation-sym (edges_at true v arrows) list p) c)),
  (λ c. Contains-permutation (edges_at true v arrows) list (u, kind) p (there_entering v arrows u kind c)),
)

pub listed_leaving : (v : VertexId) (arrows : List Arrow) (list : List (VertexId × EdgeKind)) (u : VertexId) (kind : EdgeKind) → IsPermutation (edges_at false v arrows) list → Contains list (u, kind) ↔ Contains arrows (arrow_of v u kind)
listed_leaving v arrows list u kind p = (
  (λ c. leaving_there v arrows u kind (Contains-permutation list (edges_at false v arrows) (u, kind) (IsPermutation-sym (edges_at false v arrows) list p) c)),
  (λ c. Contains-permutation (edges_at false v arrows) list (u, kind) p (there_leaving v arrows u kind c)),
)

-- one edge less to look at
pub other_left : {A : Type 0} (x y : A) (old new : List A) → old ≡ x ∷ new → Contains old y → (x ≡ y → ⊥) → Contains new y
other_left x y old new e c ne = elim (contains_cases x y new (subst (λ (l : List _). Contains l y) e c)) [ inl s ↦ absurd (ne s) | inr d ↦ d ]

pub still_inside : {A : Type 0} (x y : A) (old new : List A) → old ≡ x ∷ new → Contains new y → Contains old y
still_inside x y old new e c = subst (λ (l : List _). Contains l y) (sym e) (contains_later x y new c)

pub first_inside : {A : Type 0} (x : A) (old new : List A) → old ≡ x ∷ new → Contains old x
first_inside x old new e = subst (λ (l : List _). Contains l x) (sym e) (contains_here x x new refl)

pub nothing_inside : {A : Type 0} (x : A) (list : List A) → list ≡ [] → ¬ Contains list x
nothing_inside x list e c = contains_nil x (subst (λ (l : List _). Contains l x) e c)

-- ids of an arena that are those of one vertex are one
pub one_id : (g : Arena) → IsArena g → (a b : VertexId) (v : Vertex) → IsVertexOf g a v → IsVertexOf g b v → a ≡ b
one_id g ok a b v p q = same_id a b (ok.one_id a.number b.number v p q)

pub id_there : (g : Arena) (id : VertexId) → id.number < length g.vertices → (v : Vertex) × IsVertexOf g id v
id_there g id l = some_at g.vertices id.number l

module _ (f : FlatForm) (marked : List WireId) (circuit : Arena) (ok : IsArena circuit) (is : IsGraphOf f circuit) where
  -- a Target edge of the circuit graph has no other beside it
  target_from : (u v x : Vertex) → Edge f (Uses f) Target u v → Edge f (Uses f) Target u x → v ≡ x
  target_from u v x p q =
      let a = (is.edges Target u v).1 p in
      let b = (is.edges Target u x).1 q in
      let from = one_id circuit ok a.arrow.from b.arrow.from u a.from b.from in
      let same : a.arrow ≡ b.arrow = ok.one_out a.arrow b.arrow a.there b.there a.is_kind b.is_kind from in
      at_unique circuit.vertices a.arrow.to.number v x a.to (ap (λ (e : Arrow). slice_get circuit.vertices e.to.number) same ∙ b.to)

  target_to : (u v x : Vertex) → Edge f (Uses f) Target u v → Edge f (Uses f) Target x v → u ≡ x
  target_to u v x p q =
      let a = (is.edges Target u v).1 p in
      let b = (is.edges Target x v).1 q in
      let to = one_id circuit ok a.arrow.to b.arrow.to v a.to b.to in
      let same : a.arrow ≡ b.arrow = ok.one_in a.arrow b.arrow a.there b.there a.is_kind b.is_kind to in
      at_unique circuit.vertices a.arrow.from.number u x a.from (ap (λ (e : Arrow). slice_get circuit.vertices e.from.number) same ∙ b.from)

  taken_target : (kind : EdgeKind) (u v : Vertex) → TakenEdge f marked kind u v → kind ≡ Target → Edge f (Uses f) Target u v
  taken_target kind u v (own_edge e) k = subst (λ (x : EdgeKind). Edge f (Uses f) x u v) k e
  taken_target kind u v (before_again a e) k = cc
  taken_target kind u v (after_again a e) k = cc

  module _ (g : Arena) (gok : IsArena g) (sound : IsSoundFor f marked g) (from to : VertexId) (u v : Vertex) (at_from : IsVertexOf g from u) (at_to : IsVertexOf g to v) where
    -- so a new one may be added to a sound graph
    pub lone_from : (kind : EdgeKind) → TakenEdge f marked kind u v → kind ≡ Target → (d : Arrow) → Contains g.arrows d → d.kind ≡ Target → d.from ≡ from → d ≡ arrow_of from to kind
    lone_from kind taken k d c dk df =
        let y = id_there g d.to (gok.ends d c).1 in
        let du : IsVertexOf g d.from u = ap (λ (x : VertexId). slice_get g.vertices x.number) df ∙ at_from in
        let same = target_from u v y.0 (taken_target kind u v taken k) (taken_target d.kind u y.0 (sound d u y.0 c du y.1) dk) in
        let dt : d.to ≡ to = one_id g gok d.to to v (y.1 ∙ ap (λ (x : Vertex). Some x) (sym same)) at_to in
        λ i. record { from = df i; to = dt i; kind = (dk ∙ sym k) i }

    pub lone_to : (kind : EdgeKind) → TakenEdge f marked kind u v → kind ≡ Target → (d : Arrow) → Contains g.arrows d → d.kind ≡ Target → d.to ≡ to → d ≡ arrow_of from to kind
    lone_to kind taken k d c dk dt =
        let y = id_there g d.from (gok.ends d c).0 in
        let dv : IsVertexOf g d.to v = ap (λ (x : VertexId). slice_get g.vertices x.number) dt ∙ at_to in
        let same = target_to u v y.0 (taken_target kind u v taken k) (taken_target d.kind y.0 v (sound d y.0 v c y.1 dv) dk) in
        let df : d.from ≡ from = one_id g gok d.from from u (y.1 ∙ ap (λ (x : Vertex). Some x) (sym same)) at_from in
        λ i. record { from = df i; to = dt i; kind = (dk ∙ sym k) i }

-- one more edge of the level's graph keeps the graph sound
pub sound_more : (f : FlatForm) (marked : List WireId) (g h : Arena) (from to : VertexId) (kind : EdgeKind) (u v : Vertex) → IsSoundFor f marked g → IsVertexOf g from u → IsVertexOf g to v → TakenEdge f marked kind u v
    → HasGrown g h → ((e : Arrow) → Contains h.arrows e → Contains g.arrows e ⊎ (arrow_of from to kind ≡ e)) → IsSoundFor f marked h
sound_more f marked g h from to kind u v sound p q taken grown only e x y c ex ey = elim (only e c) [
  | inl old ↦ sound e x y old (back e.from x ex) (back e.to y ey)
  | inr new ↦
      let a : u ≡ x = at_unique g.vertices from.number u x p (ap (λ (d : Arrow). slice_get g.vertices d.from.number) new ∙ back e.from x ex) in
      let b : v ≡ y = at_unique g.vertices to.number v y q (ap (λ (d : Arrow). slice_get g.vertices d.to.number) new ∙ back e.to y ey) in
      let k : kind ≡ e.kind = ap (λ (d : Arrow). d.kind) new in
      subst (λ (z : EdgeKind). TakenEdge f marked z x y) k (subst (λ (z : Vertex). TakenEdge f marked kind x z) b (subst (λ (z : Vertex). TakenEdge f marked kind z v) a taken))
]
  where
    back : (id : VertexId) (z : Vertex) → IsVertexOf h id z → IsVertexOf g id z
    back id z i = ap (λ (l : List Vertex). slice_get l id.number) (sym grown.vertices) ∙ i

pub grown_twice : (g h k : Arena) → HasGrown g h → HasGrown h k → HasGrown g k
grown_twice g h k a b = record { vertices = b.vertices ∙ a.vertices; kept = λ e c. b.kept e (a.kept e c) }

pub grown_same : (g : Arena) → HasGrown g g
grown_same g = record { vertices = refl; kept = λ e c. c }

pub grown_arrow : (g h : Arena) (kind : EdgeKind) (u v : Vertex) → HasGrown g h → HasArrowOf g kind u v → HasArrowOf h kind u v
grown_arrow g h kind u v grown a = record {
  arrow = a.arrow;
  there = grown.kept a.arrow a.there;
  is_kind = a.is_kind;
  from = ap (λ (l : List Vertex). slice_get l a.arrow.from.number) grown.vertices ∙ a.from;
  to = ap (λ (l : List Vertex). slice_get l a.arrow.to.number) grown.vertices ∙ a.to;
}

-- what is copied to a vertex, while some edges that enter a vertex of the circuit graph are left
module _ (circuit : Arena) (ids : List (Option VertexId)) (at to : VertexId) (all : Bool) where
  pub record CopiesBefore (g : Arena) (left : List (VertexId × EdgeKind)) : Type 0 where
    pub inside : (x : VertexId) (kind : EdgeKind) → Contains left (x, kind) → Contains circuit.arrows (arrow_of x at kind)
    pub done : (x from : VertexId) (kind : EdgeKind) → Contains circuit.arrows (arrow_of x at kind) → IsCopied all kind → get_or ids x.number None ≡ Some from → Contains left (x, kind) ⊎ Contains g.arrows (arrow_of from to kind)

  pub before_start : (g : Arena) (left : List (VertexId × EdgeKind)) → IsPermutation (edges_at true at circuit.arrows) left → CopiesBefore g left
  before_start g left p = record {
    inside = λ x kind c. (listed_entering at circuit.arrows left x kind p).0 c;
    done = λ x from kind c k e. inl ((listed_entering at circuit.arrows left x kind p).1 c);
  }

  module _ (g h : Arena) (x : VertexId) (kind : EdgeKind) (old new : List (VertexId × EdgeKind)) (next : old ≡ (x, kind) ∷ new) (copies : CopiesBefore g old) (grown : HasGrown g h) where
    pub before_more : ((from : VertexId) → IsCopied all kind → get_or ids x.number None ≡ Some from → Contains h.arrows (arrow_of from to kind)) → CopiesBefore h new
    before_more there = record {
      inside = λ y k c. copies.inside y k (still_inside (x, kind) (y, k) old new next c);
      done = λ y from k c t e. go y from k t e (copies.done y from k c t e);
    }
      where
        go : (y from : VertexId) (k : EdgeKind) → IsCopied all k → get_or ids y.number None ≡ Some from → Contains old (y, k) ⊎ Contains g.arrows (arrow_of from to k) → Contains new (y, k) ⊎ Contains h.arrows (arrow_of from to k)
        go y from k t e (inl c) = elim (contains_cases (x, kind) (y, k) new (subst (λ (l : List (VertexId × EdgeKind)). Contains l (y, k)) next c)) [
          | inl s ↦
              let same : kind ≡ k = ap (λ (z : VertexId × EdgeKind). z.1) s in
              let id : x ≡ y = ap (λ (z : VertexId × EdgeKind). z.0) s in
              inr (subst (λ (z : EdgeKind). Contains h.arrows (arrow_of from to z)) same (there from (subst (IsCopied all) (sym same) t) (ap (λ (z : VertexId). get_or ids z.number None) id ∙ e)))
          | inr d ↦ inl d
        ]
        go y from k t e (inr c) = inr (grown.kept (arrow_of from to k) c)

  -- when none is left, all are there
  pub before_end : (f : FlatForm) (g : Arena) (left : List (VertexId × EdgeKind)) → left ≡ [] → CopiesBefore g left → IsArena circuit → IsGraphOf f circuit → IsIdTable circuit g ids → (x v : Vertex) → IsVertexOf circuit at x → IsVertexOf g to v → HasCopiedBefore f all x v g
  before_end f g left none copies ok is table x v at_x to_v kind u k there e =
      let a = (is.edges kind u x).1 e in
      let end : a.arrow.to ≡ at = one_id circuit ok a.arrow.to at x a.to at_x in
      let same : a.arrow ≡ arrow_of a.arrow.from at kind = λ i. record { from = a.arrow.from; to = end i; kind = a.is_kind i } in
      let p = place_of g.vertices u there in
      let y : VertexId = record { number = p.0 } in
      let row = table.all a.arrow.from y u a.from p.1 in
      go a.arrow.from y p.1 (copies.done a.arrow.from y kind (subst (Contains circuit.arrows) same a.there) k row)
    where
      go : (z y : VertexId) → IsVertexOf g y u → Contains left (z, kind) ⊎ Contains g.arrows (arrow_of y to kind) → HasArrowOf g kind u v
      go z y h (inl c) = absurd (nothing_inside (z, kind) left none c)
      go z y h (inr c) = record { arrow = arrow_of y to kind; there = c; is_kind = refl; from = h; to = to_v }

-- the same for Availability edges that leave a vertex
module _ (circuit : Arena) (ids : List (Option VertexId)) (at from : VertexId) where
  pub record CopiesAfter (g : Arena) (left : List (VertexId × EdgeKind)) : Type 0 where
    pub inside : (y : VertexId) (kind : EdgeKind) → Contains left (y, kind) → Contains circuit.arrows (arrow_of at y kind)
    pub done : (y to : VertexId) → Contains circuit.arrows (arrow_of at y Availability) → get_or ids y.number None ≡ Some to → Contains left (y, Availability) ⊎ Contains g.arrows (arrow_of from to Availability)

  pub after_start : (g : Arena) (left : List (VertexId × EdgeKind)) → IsPermutation (edges_at false at circuit.arrows) left → CopiesAfter g left
  after_start g left p = record {
    inside = λ y kind c. (listed_leaving at circuit.arrows left y kind p).0 c;
    done = λ y to c e. inl ((listed_leaving at circuit.arrows left y Availability p).1 c);
  }

  module _ (g h : Arena) (x : VertexId) (kind : EdgeKind) (old new : List (VertexId × EdgeKind)) (next : old ≡ (x, kind) ∷ new) (copies : CopiesAfter g old) (grown : HasGrown g h) where
    pub after_more : ((to : VertexId) → kind ≡ Availability → get_or ids x.number None ≡ Some to → Contains h.arrows (arrow_of from to Availability)) → CopiesAfter h new
    after_more there = record {
      inside = λ y k c. copies.inside y k (still_inside (x, kind) (y, k) old new next c);
      done = λ y to c e. go y to e (copies.done y to c e);
    }
      where
        go : (y to : VertexId) → get_or ids y.number None ≡ Some to → Contains old (y, Availability) ⊎ Contains g.arrows (arrow_of from to Availability) → Contains new (y, Availability) ⊎ Contains h.arrows (arrow_of from to Availability)
        go y to e (inl c) = elim (contains_cases (x, kind) (y, Availability) new (subst (λ (l : List (VertexId × EdgeKind)). Contains l (y, Availability)) next c)) [
          | inl s ↦
              let same : kind ≡ Availability = ap (λ (z : VertexId × EdgeKind). z.1) s in
              let id : x ≡ y = ap (λ (z : VertexId × EdgeKind). z.0) s in
              inr (there to same (ap (λ (z : VertexId). get_or ids z.number None) id ∙ e))
          | inr d ↦ inl d
        ]
        go y to e (inr c) = inr (grown.kept (arrow_of from to Availability) c)

  pub after_end : (f : FlatForm) (g : Arena) (left : List (VertexId × EdgeKind)) → left ≡ [] → CopiesAfter g left → IsArena circuit → IsGraphOf f circuit → IsIdTable circuit g ids → (x u : Vertex) → IsVertexOf circuit at x → IsVertexOf g from u → HasCopiedAfter f x u g
  after_end f g left none copies ok is table x u at_x from_u v there e =
      let a = (is.edges Availability x v).1 e in
      let end : a.arrow.from ≡ at = one_id circuit ok a.arrow.from at x a.from at_x in
      let same : a.arrow ≡ arrow_of at a.arrow.to Availability = λ i. record { from = end i; to = a.arrow.to; kind = a.is_kind i } in
      let p = place_of g.vertices v there in
      let y : VertexId = record { number = p.0 } in
      let row = table.all a.arrow.to y v a.to p.1 in
      go a.arrow.to y p.1 (copies.done a.arrow.to y (subst (Contains circuit.arrows) same a.there) row)
    where
      go : (z y : VertexId) → IsVertexOf g y v → Contains left (z, Availability) ⊎ Contains g.arrows (arrow_of from y Availability) → HasArrowOf g Availability u v
      go z y h (inl c) = absurd (nothing_inside (z, Availability) left none c)
      go z y h (inr c) = record { arrow = arrow_of from y Availability; there = c; is_kind = refl; from = from_u; to = h }

-- an edge of the circuit graph between ids is one of the form
pub circuit_edge : (f : FlatForm) (circuit : Arena) → IsGraphOf f circuit → (from to : VertexId) (kind : EdgeKind) (u v : Vertex) → Contains circuit.arrows (arrow_of from to kind) → IsVertexOf circuit from u → IsVertexOf circuit to v → Edge f (Uses f) kind u v
circuit_edge f circuit is from to kind u v c p q = (is.edges kind u v).0 (record { arrow = arrow_of from to kind; there = c; is_kind = refl; from = p; to = q })

-- what was chosen
pub chosen_some : (asked : Bool) (o : Option VertexId) (y : VertexId) → Some y ≡ cond asked o None → (asked ≡ true) × (o ≡ Some y)
chosen_some true o y e = (refl, sym e)
chosen_some false o y e = absurd (none-some y (sym e))

pub chosen_none : (asked : Bool) (o : Option VertexId) (y : VertexId) → None ≡ cond asked o None → asked ≡ true → o ≡ Some y → ⊥
chosen_none true o y e a h = none-some y (e ∙ h)
chosen_none false o y e a h = cc

-- a graph that grew has the same vertices under the same ids
pub still_vertex : (g h : Arena) → HasGrown g h → (id : VertexId) (v : Vertex) → IsVertexOf g id v → IsVertexOf h id v
still_vertex g h grown id v i = ap (λ (l : List Vertex). slice_get l id.number) grown.vertices ∙ i

pub was_vertex : (g h : Arena) → HasGrown g h → (id : VertexId) (v : Vertex) → IsVertexOf h id v → IsVertexOf g id v
was_vertex g h grown id v i = ap (λ (l : List Vertex). slice_get l id.number) (sym grown.vertices) ∙ i

pub table_grown : (circuit g h : Arena) (ids : List (Option VertexId)) → HasGrown g h → IsIdTable circuit g ids → IsIdTable circuit h ids
table_grown circuit g h ids grown table = record {
  as_many = table.as_many;
  only = λ id x e. let o = table.only id x e in (o.0, o.1, still_vertex g h grown x o.0 o.2);
  all = λ id x v p q. table.all id x v p (was_vertex g h grown x v q);
}

-- the id of a kept vertex is there
pub row_there : (circuit g : Arena) (ids : List (Option VertexId)) → IsIdTable circuit g ids → (id x : VertexId) → get_or ids id.number None ≡ Some x → x.number < length g.vertices
row_there circuit g ids table id x e = let o = table.only id x e in slice_get_within g.vertices x.number o.0 o.2

-- an edge that is copied is one of the level's graph
pub copied_before : (f : FlatForm) (marked : List WireId) (circuit g : Arena) (ids : List (Option VertexId)) → IsGraphOf f circuit → IsIdTable circuit g ids → (at to x from : VertexId) → at.number < length circuit.vertices → (all : Bool) (kind : EdgeKind)
    → ((y v : Vertex) → IsVertexOf circuit at y → IsVertexOf g to v → MayCopyBefore f marked all y v) → Contains circuit.arrows (arrow_of x at kind) → IsCopied all kind → get_or ids x.number None ≡ Some from
    → (u v : Vertex) → IsVertexOf g from u → IsVertexOf g to v → TakenEdge f marked kind u v
copied_before f marked circuit g ids is table at to x from l all kind may c k e u v p q =
    let o = table.only x from e in
    let same : o.0 ≡ u = at_unique g.vertices from.number o.0 u o.2 p in
    let y = id_there circuit at l in
    may y.0 v y.1 q kind u k (circuit_edge f circuit is x at kind u y.0 c (o.1 ∙ ap (λ (z : Vertex). Some z) same) y.1)

pub copied_after : (f : FlatForm) (marked : List WireId) (circuit g : Arena) (ids : List (Option VertexId)) → IsGraphOf f circuit → IsIdTable circuit g ids → (at from x to : VertexId) → at.number < length circuit.vertices → (kind : EdgeKind)
    → ((y u : Vertex) → IsVertexOf circuit at y → IsVertexOf g from u → MayCopyAfter f marked y u) → Contains circuit.arrows (arrow_of at x kind) → kind ≡ Availability → get_or ids x.number None ≡ Some to
    → (u v : Vertex) → IsVertexOf g from u → IsVertexOf g to v → TakenEdge f marked kind u v
copied_after f marked circuit g ids is table at from x to l kind may c k e u v p q =
    let o = table.only x to e in
    let same : o.0 ≡ v = at_unique g.vertices to.number o.0 v o.2 q in
    let y = id_there circuit at l in
    subst (λ (z : EdgeKind). TakenEdge f marked z u v) (sym k)
    (may y.0 u y.1 p v (subst (λ (z : EdgeKind). Edge f (Uses f) z y.0 v) k (circuit_edge f circuit is at x kind y.0 v c y.1 (o.1 ∙ ap (λ (z : Vertex). Some z) same))))

pub same_row : (ids : List (Option VertexId)) (x a b : VertexId) → get_or ids x.number None ≡ Some a → get_or ids x.number None ≡ Some b → a ≡ b
same_row ids x a b p q = same_Some a b (sym p ∙ q)
