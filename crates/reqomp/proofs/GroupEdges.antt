-- The edges of groups, added one after another.
use Rattle.std.proofs.Common.{◌≡◌, ℕ, ◌+◌, ◌<◌, ◌≤◌, Bool, true, false, List, length, slice_get, Some, Contains, sym, ap, ◌∙◌, subst, inl, inr, arith}
use Rattle.std.proofs.lemmas.Bool.{cases_eq}
use Rattle.std.proofs.lemmas.Option.{slice_get_within}
use Rattle.flat_core.specs.declared.step.WireId.{WireId}
use Rattle.flat_core.specs.declared.step.StepId.{StepId}
use Rattle.flat_core.specs.Form.{FlatForm}
use Rattle.flat_core.specs.Ends.{KeepsEnds}
use Rattle.graph_core.specs.declared.vertex.Vertex.{Vertex}
use Rattle.graph_core.specs.declared.vertex.EdgeKind.{EdgeKind}
use Rattle.graph_core.specs.declared.vertex.EdgeKind.TheVariants.{Availability}
use Rattle.graph_core.specs.declared.graph.VertexId.{VertexId}
use Rattle.graph_core.specs.Arena.{Arena, IsVertexOf}
use Rattle.graph_core.specs.Circuit.{IsVertex, Uses, Edge}
use Rattle.graph_core.proofs.Places.{contains_at, place_of, at_unique}
use Rattle.reqomp.specs.declared.groups.Group.{Group}
use Rattle.reqomp.specs.Simple.{marked_at}
use Rattle.reqomp.specs.Contracted.{alike, TakenEdge, own_edge, before_again, after_again}
use Rattle.reqomp.specs.Growing.{HasGrown, MayCopyBefore, MayCopyAfter, HasCopiedBefore, HasCopiedAfter, HasGroupEdges}
use Rattle.reqomp.specs.Grouping.{IsGroup}
use Rattle.reqomp.proofs.Growth.{grown_arrow}
use Rattle.reqomp.proofs.LevelArena.{again_of, again_vertex}

-- what was copied to a graph is still there when the graph has grown
module _ (f : FlatForm) (g h : Arena) (grown : HasGrown g h) where
  pub before_kept : (all : Bool) (x v : Vertex) → HasCopiedBefore f all x v g → HasCopiedBefore f all x v h
  before_kept all x v copied kind u k there e =
      grown_arrow g h kind u v grown (copied kind u k (subst (λ (l : List Vertex). Contains l u) grown.vertices there) e)

  pub after_kept : (x u : Vertex) → HasCopiedAfter f x u g → HasCopiedAfter f x u h
  after_kept x u copied v there e = grown_arrow g h Availability u v grown (copied v (subst (λ (l : List Vertex). Contains l v) grown.vertices there) e)

  pub group_kept : (group : Group) → HasGroupEdges f group g → HasGroupEdges f group h
  group_kept group edges = record {
    own = before_kept true group.vertex group.vertex edges.own;
    before = λ t c. before_kept false (alike group.vertex t) group.vertex (edges.before t c);
    after = λ t c. after_kept (alike group.vertex t) group.vertex (edges.after t c);
  }

-- what may be copied to the vertex of a group
module _ (f : FlatForm) (circuit g : Arena) (at id : VertexId) (w own : Vertex) (at_w : IsVertexOf circuit at w) (id_own : IsVertexOf g id own) where
  same_at : (x : Vertex) → IsVertexOf circuit at x → w ≡ x
  same_at x p = at_unique circuit.vertices at.number w x at_w p

  same_own : (v : Vertex) → IsVertexOf g id v → own ≡ v
  same_own v p = at_unique g.vertices id.number own v id_own p

  pub may_before : (marked : List WireId) (all : Bool) → MayCopyBefore f marked all w own → (x v : Vertex) → IsVertexOf circuit at x
      → IsVertexOf g id v → MayCopyBefore f marked all x v
  may_before marked all may x v p q =
      subst (λ (y : Vertex). MayCopyBefore f marked all x y) (same_own v q)
      (subst (λ (y : Vertex). MayCopyBefore f marked all y own) (same_at x p) may)

  pub may_after : (marked : List WireId) → MayCopyAfter f marked w own → (x u : Vertex) → IsVertexOf circuit at x → IsVertexOf g id u
      → MayCopyAfter f marked x u
  may_after marked may x u p q =
      subst (λ (y : Vertex). MayCopyAfter f marked x y) (same_own u q) (subst (λ (y : Vertex). MayCopyAfter f marked y own) (same_at x p) may)

pub may_own : (f : FlatForm) (marked : List WireId) (v : Vertex) → MayCopyBefore f marked true v v
may_own f marked v kind u k e = own_edge e

module _ (f : FlatForm) (ok : KeepsEnds f) (k : ℕ) (circuit : Arena) (group : Group) (is : IsGroup f (marked_at f k) circuit group)
    (j : ℕ) (t : StepId) (at : slice_get group.steps.items j ≡ Some t) where
  listed : Contains group.steps.items t
  listed = contains_at group.steps.items j t at

  pub may_before_again : MayCopyBefore f (marked_at f k) false (alike group.vertex t) group.vertex
  may_before_again kind u c e =
      subst (λ (z : EdgeKind). TakenEdge f (marked_at f k) z u group.vertex) (sym c)
      (before_again {t = t} (again_of f ok k group.vertex group.steps.items t is.redone listed)
      (subst (λ (z : EdgeKind). Edge f (Uses f) z u (alike group.vertex t)) c e))

  pub may_after_again : MayCopyAfter f (marked_at f k) (alike group.vertex t) group.vertex
  may_after_again v e = after_again {t = t} (again_of f ok k group.vertex group.steps.items t is.redone listed) e

  pub again_step : t.number < length f.steps
  again_step = let a = again_of f ok k group.vertex group.steps.items t is.redone listed in a.step

  pub again_there : IsVertex f (alike group.vertex t)
  again_there = again_vertex f ok k group.vertex t (again_of f ok k group.vertex group.steps.items t is.redone listed)

-- the edges of a group, as far as its first n steps have them
pub record HasFirstEdges (f : FlatForm) (group : Group) (n : ℕ) (g : Arena) : Type 0 where
  pub own : HasCopiedBefore f true group.vertex group.vertex g
  pub before : (j : ℕ) (t : StepId) → j < n → slice_get group.steps.items j ≡ Some t → HasCopiedBefore f false (alike group.vertex t) group.vertex g
  pub after : (j : ℕ) (t : StepId) → j < n → slice_get group.steps.items j ≡ Some t → HasCopiedAfter f (alike group.vertex t) group.vertex g

module _ (f : FlatForm) (group : Group) where
  pub edges_start : (g : Arena) → HasCopiedBefore f true group.vertex group.vertex g → HasFirstEdges f group 0 g
  edges_start g own = record { own = own; before = λ j t l. absurd (omega arith); after = λ j t l. absurd (omega arith) }

  pub edges_more : (g h : Arena) (n : ℕ) (t : StepId) → slice_get group.steps.items n ≡ Some t → HasGrown g h → HasFirstEdges f group n g
      → HasCopiedBefore f false (alike group.vertex t) group.vertex h → HasCopiedAfter f (alike group.vertex t) group.vertex h
      → HasFirstEdges f group (n + 1) h
  edges_more g h n t at grown first before after = record {
    own = before_kept f g h grown true group.vertex group.vertex first.own;
    before = λ j s l e. elim (cases_eq j n) [
      | inl same ↦ subst (λ (x : StepId). HasCopiedBefore f false (alike group.vertex x) group.vertex h) (one j s e same) before
      | inr other ↦ before_kept f g h grown false (alike group.vertex s) group.vertex (first.before j s (omega arith) e)
    ];
    after = λ j s l e. elim (cases_eq j n) [
      | inl same ↦ subst (λ (x : StepId). HasCopiedAfter f (alike group.vertex x) group.vertex h) (one j s e same) after
      | inr other ↦ after_kept f g h grown (alike group.vertex s) group.vertex (first.after j s (omega arith) e)
    ];
  }
    where
      one : (j : ℕ) (s : StepId) → slice_get group.steps.items j ≡ Some s → j ≡ n → t ≡ s
      one j s e same = at_unique group.steps.items n t s at (ap (λ (k : ℕ). slice_get group.steps.items k) (sym same) ∙ e)

  pub edges_end : (g : Arena) (n : ℕ) → length group.steps.items ≤ n → HasFirstEdges f group n g → HasGroupEdges f group g
  edges_end g n l first = record {
    own = first.own;
    before = λ t c. let p = place_of group.steps.items t c in let i = slice_get_within group.steps.items p.0 t p.1 in first.before p.0 t (omega arith) p.1;
    after = λ t c. let p = place_of group.steps.items t c in let i = slice_get_within group.steps.items p.0 t p.1 in first.after p.0 t (omega arith) p.1;
  }

-- the edges of the first n groups
pub record HaveEdges (f : FlatForm) (groups : List Group) (n : ℕ) (g : Arena) : Type 0 where
  pub each : (i : ℕ) (group : Group) → i < n → slice_get groups i ≡ Some group → HasGroupEdges f group g

module _ (f : FlatForm) (groups : List Group) where
  pub groups_start : (g : Arena) → HaveEdges f groups 0 g
  groups_start g = record { each = λ i group l. absurd (omega arith) }

  pub groups_more : (g h : Arena) (n : ℕ) (group : Group) → slice_get groups n ≡ Some group → HasGrown g h → HaveEdges f groups n g
      → HasGroupEdges f group h → HaveEdges f groups (n + 1) h
  groups_more g h n group at grown first edges = record {
    each = λ i other l e. elim (cases_eq i n) [
      | inl same ↦ subst (λ (x : Group). HasGroupEdges f x h) (at_unique groups n group other at (ap (λ (k : ℕ). slice_get groups k) (sym same) ∙ e)) edges
      | inr apart ↦ group_kept f g h grown other (first.each i other (omega arith) e)
    ];
  }

  pub groups_end : (g : Arena) (n : ℕ) → length groups ≤ n → HaveEdges f groups n g → (i : ℕ) (group : Group) → slice_get groups i ≡ Some group
      → HasGroupEdges f group g
  groups_end g n l first i group e = let inside = slice_get_within groups i group e in first.each i group (omega arith) e
