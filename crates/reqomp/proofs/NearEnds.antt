-- The ends of the edges of a kind, and the edges of a level's graph by them.
use Rattle.std.proofs.Common.{◌≡◌, ◌↔◌, ℕ, ◌<◌, ◌+◌, ◌⊎◌, Bool, true, false, List, [], ◌∷◌, ◌++◌, length, slice_get, get_or, Option, Some, None, Contains, refl, sym, ap, ◌∙◌, subst, inl, inr, ◌≤◌, arith}
use Rattle.std.proofs.lemmas.Bool.{cases_eq}
use Rattle.std.proofs.lemmas.Option.{same_Some, slice_get_within, slice_get-get_or}
use Rattle.std.specs.List.Sorted.{IsPermutation}
use Rattle.std.proofs.lemmas.List.Elements.{Contains-push_cases, Contains-append_left, Contains-append_right}
use Rattle.flat_core.specs.declared.step.WireId.{WireId}
use Rattle.flat_core.specs.Form.{FlatForm}
use Rattle.graph_core.specs.declared.vertex.Vertex.{Vertex}
use Rattle.graph_core.specs.declared.vertex.EdgeKind.{EdgeKind}
use Rattle.graph_core.specs.declared.vertex.EdgeKind.TheVariants.{Control, Availability}
use Rattle.graph_core.specs.declared.graph.VertexId.{VertexId}
use Rattle.graph_core.specs.declared.graph.Arrow.{Arrow}
use Rattle.graph_core.specs.Arena.{Arena, IsArena, IsVertexOf}
use Rattle.graph_core.specs.Circuit.{Uses, Edge}
use Rattle.graph_core.proofs.Places.{place_of, at_unique}
use Rattle.topo_order.proofs.Orders.{contains_nil, contains_cases, contains_here}
use Rattle.unqomp.specs.GraphOf.{HasArrowOf, IsGraphOf}
use Rattle.reqomp.specs.declared.near.Near.{Near}
use Rattle.reqomp.specs.Growing.{IsIdTable, HasGrown, arrow_of, arrow_again, HasCopiedBefore, HasCopiedAfter, HasEnds, TakenAgain}
use Rattle.reqomp.specs.Contracted.{TakenEdge}
use Rattle.reqomp.proofs.Growth.{one_id, first_inside, still_inside, nothing_inside}

-- the ends of a kind among the edges that were gone through
module _ (kind : EdgeKind) (whole : List (VertexId × EdgeKind)) where
  pub record AreEndsBut (left : List (VertexId × EdgeKind)) (ends : List VertexId) : Type 0 where
    pub inside : (e : VertexId × EdgeKind) → Contains left e → Contains whole e
    pub only : (x : VertexId) → Contains ends x → Contains whole (x, kind)
    pub left_or_there : (x : VertexId) → Contains whole (x, kind) → Contains left (x, kind) ⊎ Contains ends x

  pub ends_start : (ends : List VertexId) → ends ≡ [] → AreEndsBut whole ends
  ends_start ends e = record {
    inside = λ z c. c;
    only = λ x c. absurd (nothing_inside x ends e c);
    left_or_there = λ x c. inl c;
  }

  module _ (x : VertexId) (k : EdgeKind) (old new : List (VertexId × EdgeKind)) (next : old ≡ (x, k) ∷ new) (ends : List VertexId) (are : AreEndsBut old ends) where
    pub ends_taken : k ≡ kind → AreEndsBut new (ends ++ x ∷ [])
    ends_taken same = record {
      inside = λ z c. are.inside z (still_inside (x, k) z old new next c);
      only = λ y c. elim (Contains-push_cases ends x y c) [
        | inl d ↦ are.only y d
        | inr e ↦ subst (λ (z : VertexId × EdgeKind). Contains whole z) (λ i. (e i, same i)) (are.inside (x, k) (first_inside (x, k) old new next))
      ];
      left_or_there = λ y c. go y (are.left_or_there y c);
    }
      where
        go : (y : VertexId) → Contains old (y, kind) ⊎ Contains ends y → Contains new (y, kind) ⊎ Contains (ends ++ x ∷ []) y
        go y (inl c) = elim (contains_cases (x, k) (y, kind) new (subst (λ (l : List (VertexId × EdgeKind)). Contains l (y, kind)) next c)) [
          | inl s ↦ inr (Contains-append_right ends (x ∷ []) y (contains_here x y [] (ap (λ (z : VertexId × EdgeKind). z.0) s)))
          | inr d ↦ inl d
        ]
        go y (inr c) = inr (Contains-append_left ends (x ∷ []) y c)

    pub ends_passed : (k ≡ kind → ⊥) → AreEndsBut new ends
    ends_passed other = record {
      inside = λ z c. are.inside z (still_inside (x, k) z old new next c);
      only = are.only;
      left_or_there = λ y c. go y (are.left_or_there y c);
    }
      where
        go : (y : VertexId) → Contains old (y, kind) ⊎ Contains ends y → Contains new (y, kind) ⊎ Contains ends y
        go y (inl c) = elim (contains_cases (x, k) (y, kind) new (subst (λ (l : List (VertexId × EdgeKind)). Contains l (y, kind)) next c)) [
          | inl s ↦ absurd (other (ap (λ (z : VertexId × EdgeKind). z.1) s))
          | inr d ↦ inl d
        ]
        go y (inr c) = inr c

  pub ends_end : (left : List (VertexId × EdgeKind)) (ends : List VertexId) → left ≡ [] → AreEndsBut left ends → (x : VertexId) → Contains ends x ↔ Contains whole (x, kind)
  ends_end left ends none are x = (are.only x, (λ c. go (are.left_or_there x c)))
    where
      go : Contains left (x, kind) ⊎ Contains ends x → Contains ends x
      go (inl c) = absurd (nothing_inside (x, kind) left none c)
      go (inr c) = c

-- with an edge for each end that is there, all edges of the kind are there
module _ (f : FlatForm) (circuit : Arena) (ok : IsArena circuit) (is : IsGraphOf f circuit) (ids : List (Option VertexId)) (g : Arena) (table : IsIdTable circuit g ids) (at own : VertexId) (ends : List VertexId) where
  pub held_copied : ((x : VertexId) → Contains ends x ↔ Contains circuit.arrows (arrow_of x at Control)) → HasEnds ids ends own true g → (x v : Vertex) → IsVertexOf circuit at x → IsVertexOf g own v → HasCopiedBefore f false x v g
  held_copied are has x v at_x to_v kind u k there e =
      let a = (is.edges Control u x).1 (subst (λ (z : EdgeKind). Edge f (Uses f) z u x) k e) in
      let end : a.arrow.to ≡ at = one_id circuit ok a.arrow.to at x a.to at_x in
      let same : a.arrow ≡ arrow_of a.arrow.from at Control = λ i. record { from = a.arrow.from; to = end i; kind = a.is_kind i } in
      let p = place_of g.vertices u there in
      let y : VertexId = record { number = p.0 } in
      let row = table.all a.arrow.from y u a.from p.1 in
      record {
        arrow = arrow_of y own Control;
        there = has a.arrow.from y ((are a.arrow.from).1 (subst (Contains circuit.arrows) same a.there)) row;
        is_kind = sym k;
        from = p.1;
        to = to_v;
      }

  pub led_copied : ((x : VertexId) → Contains ends x ↔ Contains circuit.arrows (arrow_of at x Availability)) → HasEnds ids ends own false g → (x u : Vertex) → IsVertexOf circuit at x → IsVertexOf g own u → HasCopiedAfter f x u g
  led_copied are has x u at_x from_u v there e =
      let a = (is.edges Availability x v).1 e in
      let end : a.arrow.from ≡ at = one_id circuit ok a.arrow.from at x a.from at_x in
      let same : a.arrow ≡ arrow_of at a.arrow.to Availability = λ i. record { from = end i; to = a.arrow.to; kind = a.is_kind i } in
      let p = place_of g.vertices v there in
      let y : VertexId = record { number = p.0 } in
      let row = table.all a.arrow.to y v a.to p.1 in
      record {
        arrow = arrow_of own y Availability;
        there = has a.arrow.to y ((are a.arrow.to).1 (subst (Contains circuit.arrows) same a.there)) row;
        is_kind = refl;
        from = from_u;
        to = p.1;
      }

-- the edges for the first n ends
abbrev pub HaveFirst : List (Option VertexId) → List VertexId → VertexId → Bool → ℕ → Arena → Type 0
HaveFirst ids ends own entering n g = (j : ℕ) (x y : VertexId) → j < n → slice_get ends j ≡ Some x → get_or ids x.number None ≡ Some y → Contains g.arrows (arrow_again entering y own)

module _ (ids : List (Option VertexId)) (ends : List VertexId) (own : VertexId) (entering : Bool) where
  pub first_none : (g : Arena) → HaveFirst ids ends own entering 0 g
  first_none g j x y l e r = absurd (omega arith)

  pub first_grown : (n : ℕ) (g h : Arena) → HasGrown g h → HaveFirst ids ends own entering n g → HaveFirst ids ends own entering n h
  first_grown n g h grown have j x y l e r = grown.kept (arrow_again entering y own) (have j x y l e r)

  pub one_more : (n : ℕ) (g : Arena) (x : VertexId) → slice_get ends n ≡ Some x → ((y : VertexId) → get_or ids x.number None ≡ Some y → Contains g.arrows (arrow_again entering y own)) → HaveFirst ids ends own entering n g
      → HaveFirst ids ends own entering (n + 1) g
  one_more n g x at there have j z y l e r = elim (cases_eq j n) [
    | inl s ↦
        let same : x ≡ z = same_Some x z (sym at ∙ ap (λ (k : ℕ). slice_get ends k) (sym s) ∙ e) in
        there y (ap (λ (v : VertexId). get_or ids v.number None) same ∙ r)
    | inr ne ↦ have j z y (omega arith) e r
  ]

  pub all_first : (n : ℕ) (g : Arena) → length ends ≤ n → HaveFirst ids ends own entering n g → HasEnds ids ends own entering g
  all_first n g l have x y c r =
      let p = place_of ends x c in
      let within = slice_get_within ends p.0 x p.1 in
      have p.0 x y (omega arith) p.1 r

-- the ends of an edge that a step which is done again gives
pub again_within : (entering : Bool) (y own : VertexId) (n : ℕ) → y.number < n → own.number < n → (arrow : Arrow) → arrow ≡ arrow_again entering y own → (arrow.from.number < n) × (arrow.to.number < n)
again_within true y own n l m arrow e = (subst (λ (a : Arrow). a.from.number < n) (sym e) l, subst (λ (a : Arrow). a.to.number < n) (sym e) m)
again_within false y own n l m arrow e = (subst (λ (a : Arrow). a.from.number < n) (sym e) m, subst (λ (a : Arrow). a.to.number < n) (sym e) l)

pub again_taken : (f : FlatForm) (marked : List WireId) (entering : Bool) (g : Arena) (y own : VertexId) → ((u v : Vertex) → IsVertexOf g y u → IsVertexOf g own v → TakenAgain f marked entering u v) → (arrow : Arrow) → arrow ≡ arrow_again entering y own
    → (u v : Vertex) → IsVertexOf g arrow.from u → IsVertexOf g arrow.to v → TakenEdge f marked arrow.kind u v
again_taken f marked true g y own h arrow e = subst (λ (a : Arrow). (u v : Vertex) → IsVertexOf g a.from u → IsVertexOf g a.to v → TakenEdge f marked a.kind u v) (sym e) (λ u v p q. h u v p q)
again_taken f marked false g y own h arrow e = subst (λ (a : Arrow). (u v : Vertex) → IsVertexOf g a.from u → IsVertexOf g a.to v → TakenEdge f marked a.kind u v) (sym e) (λ u v p q. h v u q p)

pub again_there : (ids : List (Option VertexId)) (x y own : VertexId) (entering : Bool) (g : Arena) → get_or ids x.number None ≡ Some y → (arrow : Arrow) → arrow ≡ arrow_again entering y own → Contains g.arrows (arrow_of arrow.from arrow.to arrow.kind)
    → (z : VertexId) → get_or ids x.number None ≡ Some z → Contains g.arrows (arrow_again entering z own)
again_there ids x y own entering g row arrow e c z r =
    let same : y ≡ z = same_Some y z (sym row ∙ r) in
    subst (Contains g.arrows) (e ∙ ap (λ (v : VertexId). arrow_again entering v own) same) c

pub taken_row : (f : FlatForm) (marked : List WireId) (entering : Bool) (circuit g : Arena) (ids : List (Option VertexId)) → IsIdTable circuit g ids → (x y own : VertexId) → get_or ids x.number None ≡ Some y
    → ((u v : Vertex) → IsVertexOf circuit x u → IsVertexOf g own v → TakenAgain f marked entering u v) → (u v : Vertex) → IsVertexOf g y u → IsVertexOf g own v → TakenAgain f marked entering u v
taken_row f marked entering circuit g ids table x y own row taken u v p q =
    let o = table.only x y row in
    let same : o.0 ≡ u = at_unique g.vertices y.number o.0 u o.2 p in
    taken u v (o.1 ∙ ap (λ (z : Vertex). Some z) same) q

-- the row of a vertex
pub near_at : (rows : List Near) (i : ℕ) (row : Near) → i < length rows → row ≡ get_or rows i row → slice_get rows i ≡ Some row
near_at rows i row l e = slice_get-get_or rows i row l ∙ ap (λ (r : Near). Some r) (sym e)
