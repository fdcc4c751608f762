-- The groups of kept vertices, one after another.
use Rattle.std.proofs.Common.{◌≡◌, ◌↔◌, ℕ, ◌+◌, ◌*◌, ◌<◌, ◌⊎◌, false, List, [], ◌∷◌, ◌++◌, length, slice_get, Some, Contains, refl, sym, ap, ◌∙◌, subst, inl, inr, arith}
use Rattle.std.proofs.lemmas.Bool.{cases_eq, both_ways, false_from_ne_true}
use Rattle.std.proofs.lemmas.List.{map-append}
use Rattle.std.proofs.lemmas.Option.{none-some}
use Rattle.std.proofs.lemmas.List.Elements.{Contains-push_cases, Contains-append_left, Contains-append_right}
use Rattle.flat_core.specs.declared.step.WireId.{WireId}
use Rattle.flat_core.specs.declared.step.StepId.{StepId}
use Rattle.flat_core.specs.Form.{FlatForm}
use Rattle.flat_core.specs.Label.{changes, step_at, same_wire}
use Rattle.flat_core.specs.Ends.{dropped, KeepsEnds}
use Rattle.flat_core.proofs.Labels.{same_wire_is}
use Rattle.flat_core.proofs.Places.{at_push}
use Rattle.graph_core.specs.declared.vertex.Vertex.{Vertex}
use Rattle.graph_core.specs.declared.vertex.Vertex.TheVariants.{Forward, Reverse, Free}
use Rattle.graph_core.specs.declared.graph.VertexId.{VertexId}
use Rattle.graph_core.specs.Arena.{Arena, IsArena, IsVertexOf}
use Rattle.graph_core.specs.Circuit.{IsVertex}
use Rattle.graph_core.proofs.Places.{contains_at, place_of, from_map, at_unique}
use Rattle.graph_core.proofs.Chains.{freed_kept}
use Rattle.topo_order.proofs.Orders.{contains_nil, contains_here}
use Rattle.reqomp.specs.declared.groups.Group.{Group}
use Rattle.reqomp.specs.declared.groups.Groups.{Groups}
use Rattle.reqomp.specs.Simple.{marked_at}
use Rattle.reqomp.specs.Level.{IsKept, IsRedone}
use Rattle.reqomp.specs.LevelGraph.{stands_on}
use Rattle.reqomp.specs.Planning.{GiveMoves, no_moves, more_moves, AreSomeKept}
use Rattle.reqomp.specs.Redone.{changes_one}
use Rattle.reqomp.specs.Grouping.{vertices_of, IsGroup, AreGroups}
use Rattle.reqomp.proofs.Contracted.{marked_dropped}
use Rattle.reqomp.proofs.LevelSlots.{kept_edges_by_slots}
use Rattle.reqomp.proofs.Redone.{one_changed, changed_one}

-- which vertices are kept
module _ (f : FlatForm) (ok : KeepsEnds f) (marked : List WireId) (v : Vertex) (s : StepId) (vertex : IsVertex f v) (stands : (w : WireId) → stands_on f v w ≡ changes w (step_at f s)) where
  kept_step : changes_one marked (step_at f s) ≡ false → IsKept f marked v
  kept_step e = ((kept_edges_by_slots f marked ok).told v).1 (vertex, λ w m. stands w ∙ false_from_ne_true (changes w (step_at f s)) (λ c. both_ways (changes_one marked (step_at f s)) e (changed_one marked (step_at f s) w m c)))

  step_kept : IsKept f marked v → changes_one marked (step_at f s) ≡ false
  step_kept k = false_from_ne_true (changes_one marked (step_at f s)) (λ c.
      let o = one_changed marked (step_at f s) c in
      both_ways (changes o.0 (step_at f s)) (sym (stands o.0) ∙ (((kept_edges_by_slots f marked ok).told v).0 k).1 o.0 o.1) o.2)

pub kept_forward : (f : FlatForm) → KeepsEnds f → (marked : List WireId) (s : StepId) → IsVertex f (Forward s) → (changes_one marked (step_at f s) ≡ false) ↔ IsKept f marked (Forward s)
kept_forward f ok marked s h = (kept_step f ok marked (Forward s) s h (λ w. refl), step_kept f ok marked (Forward s) s h (λ w. refl))

pub kept_reverse : (f : FlatForm) → KeepsEnds f → (marked : List WireId) (s : StepId) → IsVertex f (Reverse s) → (changes_one marked (step_at f s) ≡ false) ↔ IsKept f marked (Reverse s)
kept_reverse f ok marked s h = (kept_step f ok marked (Reverse s) s h (λ w. refl), step_kept f ok marked (Reverse s) s h (λ w. refl))

pub kept_free : (f : FlatForm) → KeepsEnds f → (k : ℕ) (x : WireId) → IsVertex f (Free x) → IsKept f (marked_at f k) (Free x)
kept_free f ok k x h = ((kept_edges_by_slots f (marked_at f k) ok).told (Free x)).1 (
  h,
  λ w m. false_from_ne_true (same_wire x w) (λ e.
      let same : x ≡ w = same_wire_is x w e in
      both_ways (dropped f w) (subst (λ (y : WireId). dropped f y ≡ false) same (freed_kept f x h)) (marked_dropped f k w m)),
)

-- the moves of one more vertex
pub moves_push : (f : FlatForm) (marked : List WireId) (vs : List Vertex) (n : ℕ) (v : Vertex) (steps : List StepId) → GiveMoves f marked vs n → IsRedone f marked v steps → GiveMoves f marked (vs ++ v ∷ []) (n + (2 * length steps + 1))
moves_push f marked vs n v steps no_moves r = let e : 2 * length steps + 1 + 0 ≡ 0 + (2 * length steps + 1) = omega arith in subst (GiveMoves f marked (v ∷ [])) e (more_moves r no_moves)
moves_push f marked vs n v steps (more_moves {v = u} {steps = others} {rest = rest} {n = m} q g) r =
    let e : 2 * length others + 1 + (m + (2 * length steps + 1)) ≡ 2 * length others + 1 + m + (2 * length steps + 1) = omega arith in
    subst (GiveMoves f marked (u ∷ (rest ++ v ∷ []))) e (more_moves q (moves_push f marked rest m v steps g r))

module _ (f : FlatForm) (marked : List WireId) (circuit : Arena) (ok : IsArena circuit) (n : ℕ) (groups : Groups) (are : AreGroups f marked circuit n groups) (id : VertexId) (is_n : id.number ≡ n) (v : Vertex) (at : IsVertexOf circuit id v) where
  abbrev vs : List Vertex
  vs = vertices_of groups.items.items

  -- the vertex stands in no group yet
  new_vertex : ¬ Contains vs v
  new_vertex c =
      let p = place_of vs v c in
      let g = from_map (λ (x : Group). x.vertex) groups.items.items p.0 v p.1 in
      let h = are.each p.0 g.0 g.1 in
      let e = are.early p.0 g.0 g.1 in
      let same = ok.one_id g.0.at.number id.number v (subst (IsVertexOf circuit g.0.at) g.2 h.at) at in
      omega arith

  pub groups_skip : ¬ IsKept f marked v → AreGroups f marked circuit (n + 1) groups
  groups_skip not_kept = record {
    some = are.some;
    each = are.each;
    early = λ i g e. let l = are.early i g e in omega arith;
    all = λ x y l h k. elim (cases_eq x.number n) [
      | inl e ↦
          let same : v ≡ y = at_unique circuit.vertices x.number v y (ap (λ (m : ℕ). slice_get circuit.vertices m) (e ∙ sym is_n) ∙ at) h in
          absurd (not_kept (subst (IsKept f marked) (sym same) k))
      | inr ne ↦ are.all x y (omega arith) h k
    ];
    moves = are.moves;
  }

  pub groups_more : IsKept f marked v → (group : Group) → group.at ≡ id → group.vertex ≡ v → IsRedone f marked v group.steps.items → (next : Groups) → next.items.items ≡ groups.items.items ++ group ∷ [] → next.moves ≡ groups.moves + (2 * length group.steps.items + 1)
      → AreGroups f marked circuit (n + 1) next
  groups_more kept group gid gv redone next items moves = record {
    some = record { kept = some_kept; once = some_once };
    each = λ i g e. elim (at_push groups.items.items group i g (here i g e)) [
      | inl a ↦ are.each i g a.1
      | inr b ↦ subst (IsGroup f marked circuit) b.1 (record { at = subst (λ (x : VertexId). IsVertexOf circuit x group.vertex) (sym gid) (subst (IsVertexOf circuit id) (sym gv) at); kept = subst (IsKept f marked) (sym gv) kept; redone = subst (λ (y : Vertex). IsRedone f marked y group.steps.items) (sym gv) redone })
    ];
    early = λ i g e. elim (at_push groups.items.items group i g (here i g e)) [
      | inl a ↦ let l = are.early i g a.1 in omega arith
      | inr b ↦ let same : g.at.number ≡ id.number = ap (λ (x : Group). x.at.number) (sym b.1) ∙ ap (λ (x : VertexId). x.number) gid in omega arith
    ];
    all = λ x y l h k. elim (cases_eq x.number n) [
      | inl e ↦
          let same : v ≡ y = at_unique circuit.vertices x.number v y (ap (λ (m : ℕ). slice_get circuit.vertices m) (e ∙ sym is_n) ∙ at) h in
          subst (Contains (vertices_of next.items.items)) same (subst (λ (l : List Vertex). Contains l v) (sym list) (Contains-append_right vs (v ∷ []) v (contains_here v v [] refl)))
      | inr ne ↦ subst (λ (l : List Vertex). Contains l y) (sym list) (Contains-append_left vs (v ∷ []) y (are.all x y (omega arith) h k))
    ];
    moves = subst (λ (l : List Vertex). GiveMoves f marked l next.moves) (sym list) (subst (GiveMoves f marked (vs ++ v ∷ [])) (sym moves) (moves_push f marked vs groups.moves v group.steps.items are.moves redone));
  }
    where
      here : (i : ℕ) (g : Group) → slice_get next.items.items i ≡ Some g → slice_get (groups.items.items ++ group ∷ []) i ≡ Some g
      here i g e = ap (λ (l : List Group). slice_get l i) (sym items) ∙ e

      list : vertices_of next.items.items ≡ vs ++ v ∷ []
      list = ap vertices_of items ∙ map-append (λ (x : Group). x.vertex) groups.items.items (group ∷ []) ∙ ap (λ (y : Vertex). vs ++ y ∷ []) gv

      some_kept : (y : Vertex) → Contains (vertices_of next.items.items) y → IsKept f marked y
      some_kept y c = elim (Contains-push_cases vs v y (subst (λ (l : List Vertex). Contains l y) list c)) [ inl a ↦ are.some.kept y a | inr e ↦ subst (IsKept f marked) e kept ]

      some_once : (i j : ℕ) (y : Vertex) → slice_get (vertices_of next.items.items) i ≡ Some y → slice_get (vertices_of next.items.items) j ≡ Some y → i ≡ j
      some_once i j y p q = go (at_push vs v i y (ap (λ (l : List Vertex). slice_get l i) (sym list) ∙ p)) (at_push vs v j y (ap (λ (l : List Vertex). slice_get l j) (sym list) ∙ q))
        where
          go : ((i < length vs) × (slice_get vs i ≡ Some y)) ⊎ ((i ≡ length vs) × (v ≡ y)) → ((j < length vs) × (slice_get vs j ≡ Some y)) ⊎ ((j ≡ length vs) × (v ≡ y)) → i ≡ j
          go (inl a) (inl b) = are.some.once i j y a.1 b.1
          go (inl a) (inr b) = absurd (new_vertex (subst (Contains vs) (sym b.1) (contains_at vs i y a.1)))
          go (inr a) (inl b) = absurd (new_vertex (subst (Contains vs) (sym a.1) (contains_at vs j y b.1)))
          go (inr a) (inr b) = a.0 ∙ sym b.0

pub groups_none : (f : FlatForm) (marked : List WireId) (circuit : Arena) (groups : Groups) → groups.items.items ≡ [] → groups.moves ≡ 0 → AreGroups f marked circuit 0 groups
groups_none f marked circuit groups e m = record {
  some = subst (λ (l : List Group). AreSomeKept f marked (vertices_of l)) (sym e) (record { kept = λ v c. absurd (contains_nil v c); once = λ i j v p q. absurd (none-some v p) });
  each = λ i g h. absurd (none-some g (ap (λ (l : List Group). slice_get l i) (sym e) ∙ h));
  early = λ i g h. absurd (none-some g (ap (λ (l : List Group). slice_get l i) (sym e) ∙ h));
  all = λ id v l h k. absurd (omega arith);
  moves = subst (λ (l : List Group). GiveMoves f marked (vertices_of l) groups.moves) (sym e) (subst (GiveMoves f marked []) (sym m) no_moves);
}
