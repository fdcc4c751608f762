-- The arena of a level: its ids, its places in the circuit graph, and that its edges are those of the level's graph.
use Rattle.std.proofs.Common.{◌≡◌, ℕ, ◌+◌, ◌<◌, ◌⊎◌, List, length, slice_get, slice_set, get_or, Some, Contains, refl, sym, ap, ◌∙◌, subst, inl, inr, arith, length-set, get_or-set_same, get_or-set_other}
use Rattle.std.proofs.lemmas.Bool.{cases_eq}
use Rattle.std.proofs.lemmas.Option.{slice_get_within}
use Rattle.flat_core.specs.declared.step.WireId.{WireId}
use Rattle.flat_core.specs.declared.step.StepId.{StepId}
use Rattle.flat_core.specs.Form.{FlatForm}
use Rattle.flat_core.specs.Ends.{KeepsEnds}
use Rattle.graph_core.specs.declared.vertex.Vertex.{Vertex}
use Rattle.graph_core.specs.declared.vertex.Vertex.TheVariants.{Forward, Reverse, Free}
use Rattle.graph_core.specs.declared.vertex.EdgeKind.{EdgeKind}
use Rattle.graph_core.specs.declared.vertex.EdgeKind.TheVariants.{Control, Availability}
use Rattle.graph_core.specs.declared.graph.VertexId.{VertexId}
use Rattle.graph_core.specs.Arena.{Arena, IsArena, IsVertexOf}
use Rattle.graph_core.specs.Circuit.{IsVertex, Uses, Edge}
use Rattle.graph_core.proofs.Places.{contains_at, place_of, from_map, at_unique}
use Rattle.unqomp.specs.GraphOf.{HasArrowOf, HasVertices, HasEdges, IsGraphOf}
use Rattle.reqomp.specs.declared.groups.Group.{Group}
use Rattle.reqomp.specs.declared.groups.Groups.{Groups}
use Rattle.reqomp.specs.declared.places.Places.{Places}
use Rattle.reqomp.specs.Simple.{marked_at}
use Rattle.reqomp.specs.Level.{IsKept, IsRedone}
use Rattle.reqomp.specs.LevelGraph.{IsKeptEdge, IsLevelGraphOf}
use Rattle.reqomp.specs.Contracted.{IsAgain, alike, TakenEdge, own_edge, before_again, after_again}
use Rattle.flat_core.proofs.Kept.{keeps_ends}
use Rattle.reqomp.specs.Growing.{ArePlaces, IsSoundFor, HasGroupEdges, GroupsGiveLevelGraph}
use Rattle.reqomp.specs.Grouping.{vertices_of, IsGroup, AreGroups}
use Rattle.reqomp.proofs.Contracted.{contracted_edges, marked_dropped, free_rests, rests_marked}
use Rattle.reqomp.proofs.Growth.{one_id}

-- the id of one more vertex is noted
places_kept : (rows : List VertexId) (s t : StepId) (id new : VertexId) → s.number ≡ t.number ⊎ (s.number ≡ t.number → ⊥) → s.number < length rows → (s.number ≡ t.number → new ≡ id) → ((s.number ≡ t.number → ⊥) → get_or rows t.number id ≡ id) → get_or (slice_set rows s.number new) t.number id ≡ id
places_kept rows s t id new (inl e) l h g = ap (λ (n : ℕ). get_or (slice_set rows s.number new) n id) (sym e) ∙ get_or-set_same rows s.number new id l ∙ h e
places_kept rows s t id new (inr n) l h g = get_or-set_other rows s.number t.number new id (λ e. n (sym e)) ∙ g n

module _ (f : FlatForm) (circuit : Arena) (ok : IsArena circuit) (n : ℕ) (places : Places) (are : ArePlaces f circuit n places) (new : VertexId) (is_n : new.number ≡ n) where
  pub more_forward : (s : StepId) → s.number < length f.steps → IsVertexOf circuit new (Forward s) → (next : Places) → next.forward.items ≡ slice_set places.forward.items s.number new → next.reverse.items ≡ places.reverse.items → ArePlaces f circuit (n + 1) next
  more_forward s sl at next e r = record {
    forward_rows = ap length e ∙ length-set places.forward.items s.number new ∙ are.forward_rows;
    reverse_rows = ap length r ∙ are.reverse_rows;
    forward = λ t id l m h.
        let rows = are.forward_rows in
        ap (λ (xs : List VertexId). get_or xs t.number id) e
        ∙ places_kept places.forward.items s t id new (cases_eq s.number t.number) (omega arith)
        (λ same. one_id circuit ok new id (Forward t) (at ∙ ap (λ (k : ℕ). Some (Forward (record { number = k }))) same) h)
        (λ other. elim (cases_eq id.number n) [
          | inl ie ↦ absurd (other (number_of s t (at_unique circuit.vertices new.number (Forward s) (Forward t) at (ap (λ (k : ℕ). slice_get circuit.vertices k) (is_n ∙ sym ie) ∙ h))))
          | inr ne ↦ are.forward t id (omega arith) m h
        ]);
    reverse = λ t id l m h.
        ap (λ (xs : List VertexId). get_or xs t.number id) r
        ∙ elim (cases_eq id.number n) [
          | inl ie ↦ absurd (apart s t (at_unique circuit.vertices new.number (Forward s) (Reverse t) at (ap (λ (k : ℕ). slice_get circuit.vertices k) (is_n ∙ sym ie) ∙ h)))
          | inr ne ↦ are.reverse t id (omega arith) m h
        ];
  }
    where
      number_of : (s t : StepId) → Forward s ≡ Forward t → s.number ≡ t.number
      number_of s t e = let same : s ≡ t = cc in ap (λ (x : StepId). x.number) same

      apart : (s t : StepId) → Forward s ≡ Reverse t → ⊥
      apart s t e = cc

  pub more_reverse : (s : StepId) → s.number < length f.steps → IsVertexOf circuit new (Reverse s) → (next : Places) → next.reverse.items ≡ slice_set places.reverse.items s.number new → next.forward.items ≡ places.forward.items → ArePlaces f circuit (n + 1) next
  more_reverse s sl at next e r = record {
    reverse_rows = ap length e ∙ length-set places.reverse.items s.number new ∙ are.reverse_rows;
    forward_rows = ap length r ∙ are.forward_rows;
    reverse = λ t id l m h.
        let rows = are.reverse_rows in
        ap (λ (xs : List VertexId). get_or xs t.number id) e
        ∙ places_kept places.reverse.items s t id new (cases_eq s.number t.number) (omega arith)
        (λ same. one_id circuit ok new id (Reverse t) (at ∙ ap (λ (k : ℕ). Some (Reverse (record { number = k }))) same) h)
        (λ other. elim (cases_eq id.number n) [
          | inl ie ↦ absurd (other (number_of s t (at_unique circuit.vertices new.number (Reverse s) (Reverse t) at (ap (λ (k : ℕ). slice_get circuit.vertices k) (is_n ∙ sym ie) ∙ h))))
          | inr ne ↦ are.reverse t id (omega arith) m h
        ]);
    forward = λ t id l m h.
        ap (λ (xs : List VertexId). get_or xs t.number id) r
        ∙ elim (cases_eq id.number n) [
          | inl ie ↦ absurd (apart s t (at_unique circuit.vertices new.number (Reverse s) (Forward t) at (ap (λ (k : ℕ). slice_get circuit.vertices k) (is_n ∙ sym ie) ∙ h)))
          | inr ne ↦ are.forward t id (omega arith) m h
        ];
  }
    where
      number_of : (s t : StepId) → Reverse s ≡ Reverse t → s.number ≡ t.number
      number_of s t e = let same : s ≡ t = cc in ap (λ (x : StepId). x.number) same

      apart : (s t : StepId) → Reverse s ≡ Forward t → ⊥
      apart s t e = cc

  pub more_free : (w : WireId) → IsVertexOf circuit new (Free w) → ArePlaces f circuit (n + 1) places
  more_free w at = record {
    forward_rows = are.forward_rows;
    reverse_rows = are.reverse_rows;
    forward = λ t id l m h. elim (cases_eq id.number n) [
      | inl ie ↦ absurd (apart t (at_unique circuit.vertices new.number (Free w) (Forward t) at (ap (λ (k : ℕ). slice_get circuit.vertices k) (is_n ∙ sym ie) ∙ h)))
      | inr ne ↦ are.forward t id (omega arith) m h
    ];
    reverse = λ t id l m h. elim (cases_eq id.number n) [
      | inl ie ↦ absurd (other t (at_unique circuit.vertices new.number (Free w) (Reverse t) at (ap (λ (k : ℕ). slice_get circuit.vertices k) (is_n ∙ sym ie) ∙ h)))
      | inr ne ↦ are.reverse t id (omega arith) m h
    ];
  }
    where
      apart : (t : StepId) → Free w ≡ Forward t → ⊥
      apart t e = cc

      other : (t : StepId) → Free w ≡ Reverse t → ⊥
      other t e = cc

-- a step that is done again stands in the circuit graph beside its vertex
module _ (f : FlatForm) (ok : KeepsEnds f) (k : ℕ) where
  pub again_of : (v : Vertex) (steps : List StepId) (t : StepId) → IsRedone f (marked_at f k) v steps → Contains steps t → IsAgain f (marked_at f k) v t
  again_of v steps t r c = let o = r.only t c in record { wire = o.0; rests = o.1; step = o.2; changing = o.3 }

  pub again_stays : (v : Vertex) (t : StepId) → IsAgain f (marked_at f k) v t → (w : WireId) → v ≡ Free w → ⊥
  again_stays v t a w e = free_rests f ok (marked_at f k) v w a.wire a.rests e

  pub again_vertex : (v : Vertex) (t : StepId) → IsAgain f (marked_at f k) v t → IsVertex f (alike v t)
  again_vertex (Forward s) t a = a.step
  again_vertex (Reverse s) t a = (a.step, ok.dropped_by_x t a.wire a.step a.changing (marked_dropped f k a.wire (rests_marked f ok (marked_at f k) (Reverse s) a.wire a.rests)))
  again_vertex (Free x) t a = absurd (again_stays (Free x) t a x refl)

-- the edges of the level's graph, when those of all groups are there
module _ (f : FlatForm) (ok : KeepsEnds f) (k : ℕ) (circuit : Arena) (is : IsGraphOf f circuit) (groups : Groups) (are : AreGroups f (marked_at f k) circuit (length circuit.vertices) groups) (g : Arena) (vertices : g.vertices ≡ vertices_of groups.items.items) where
  level_vertices : HasVertices g (IsKept f (marked_at f k))
  level_vertices v = (
    (λ c. are.some.kept v (subst (λ (l : List Vertex). Contains l v) vertices c)),
    (λ h.
        let p = place_of circuit.vertices v ((is.vertices v).1 h.vertex) in
        let all = are.all (record { number = p.0 }) v (slice_get_within circuit.vertices p.0 v p.1) p.1 h in
        subst (λ (l : List Vertex). Contains l v) (sym vertices) all),
  )

  module _ (sound : IsSoundFor f (marked_at f k) g) (whole : (i : ℕ) (group : Group) → slice_get groups.items.items i ≡ Some group → HasGroupEdges f group g) where
    kept_there : (v : Vertex) → IsKept f (marked_at f k) v → (group : Group) × HasGroupEdges f group g × IsGroup f (marked_at f k) circuit group × (group.vertex ≡ v)
    kept_there v h =
        let c = subst (λ (l : List Vertex). Contains l v) vertices ((level_vertices v).1 h) in
        let p = place_of (vertices_of groups.items.items) v c in
        let m = from_map (λ (x : Group). x.vertex) groups.items.items p.0 v p.1 in
        (m.0, whole p.0 m.0 m.1, are.each p.0 m.0 m.1, m.2)

    taken_there : (kind : EdgeKind) (u v : Vertex) → IsKept f (marked_at f k) u → IsKept f (marked_at f k) v → TakenEdge f (marked_at f k) kind u v → HasArrowOf g kind u v
    taken_there kind u v from to (own_edge e) =
        let o = kept_there v to in
        subst (HasArrowOf g kind u) o.3 (o.1.own kind u tt ((level_vertices u).1 from) (subst (Edge f (Uses f) kind u) (sym o.3) e))
    taken_there kind u v from to (before_again {t = t} a e) =
        let o = kept_there v to in
        let b : IsAgain f (marked_at f k) o.0.vertex t = subst (λ (x : Vertex). IsAgain f (marked_at f k) x t) (sym o.3) a in
        let c = o.2.redone.all t b.wire b.rests b.step b.changing in
        subst (HasArrowOf g Control u) o.3 (o.1.before t c Control u refl ((level_vertices u).1 from) (subst (λ (x : Vertex). Edge f (Uses f) Control u (alike x t)) (sym o.3) e))
    taken_there kind u v from to (after_again {t = t} a e) =
        let o = kept_there u from in
        let b : IsAgain f (marked_at f k) o.0.vertex t = subst (λ (x : Vertex). IsAgain f (marked_at f k) x t) (sym o.3) a in
        let c = o.2.redone.all t b.wire b.rests b.step b.changing in
        subst (λ (x : Vertex). HasArrowOf g Availability x v) o.3 (o.1.after t c v ((level_vertices v).1 to) (subst (λ (x : Vertex). Edge f (Uses f) Availability (alike x t) v) (sym o.3) e))

    level_edges : HasEdges g (IsKeptEdge f (marked_at f k))
    level_edges kind u v = (
      (λ a.
          let from = (level_vertices u).0 (contains_at g.vertices a.arrow.from.number u a.from) in
          let to = (level_vertices v).0 (contains_at g.vertices a.arrow.to.number v a.to) in
          (contracted_edges f k ok kind u v from to).1 (subst (λ (x : EdgeKind). TakenEdge f (marked_at f k) x u v) a.is_kind (sound a.arrow u v a.there a.from a.to))),
      (λ e. taken_there kind u v e.from e.to ((contracted_edges f k ok kind u v e.from e.to).0 e)),
    )

    pub level_arena : IsLevelGraphOf f (marked_at f k) g
    level_arena = record { vertices = level_vertices; edges = level_edges }

pub groups_give_level_graph : GroupsGiveLevelGraph
groups_give_level_graph f k flat circuit is groups are g vertices sound whole = level_arena f (keeps_ends f flat) k circuit is groups are g vertices sound whole
