-- The vertices of a level in the order of its groups, and their ids by those in the circuit graph.
use Rattle.std.proofs.Common.{◌≡◌, ℕ, ◌+◌, ◌<◌, ◌≤◌, List, [], ◌∷◌, ◌++◌, take, replicate, length, slice_get, slice_set, get_or, Option, Some, None}
use Rattle.std.proofs.Common.{Contains, refl, sym, ap, ◌∙◌, subst, inl, inr, arith, length-set, get_or-set_same, get_or-set_other}
use Rattle.std.proofs.lemmas.Bool.{cases_eq, cases_lt}
use Rattle.std.proofs.lemmas.List.{length-map, length-replicate, length-take, map-append, take_more, take_all, get_or-take, get_or-replicate, get_or_past}
use Rattle.std.proofs.lemmas.Option.{none-some, same_Some, slice_get_within, slice_get_read, get_or_from_slice_get}
use Rattle.flat_core.specs.declared.step.WireId.{WireId}
use Rattle.flat_core.specs.Form.{FlatForm}
use Rattle.graph_core.specs.declared.vertex.Vertex.{Vertex}
use Rattle.graph_core.specs.declared.graph.VertexId.{VertexId}
use Rattle.graph_core.specs.Arena.{Arena, IsArena, IsVertexOf}
use Rattle.graph_core.proofs.Places.{place_of, at_map, from_map, at_unique}
use Rattle.reqomp.specs.declared.groups.Group.{Group}
use Rattle.reqomp.specs.declared.groups.Groups.{Groups}
use Rattle.reqomp.specs.Planning.{GiveMoves, no_moves, more_moves}
use Rattle.reqomp.specs.Growing.{IsIdTable, AreOnce, ArePlaced}
use Rattle.reqomp.specs.Grouping.{vertices_of, AreGroups}
use Rattle.reqomp.proofs.Growth.{same_id}

-- each vertex gives a move at least
few_vertices : (f : FlatForm) (marked : List WireId) (vs : List Vertex) (n : ℕ) → GiveMoves f marked vs n → length vs ≤ n
few_vertices f marked vs n no_moves = omega arith
few_vertices f marked vs n (more_moves {rest = rest} {n = m} r g) = let l = few_vertices f marked rest m g in omega arith

pub few_groups : (f : FlatForm) (marked : List WireId) (circuit : Arena) (n : ℕ) (groups : Groups) → AreGroups f marked circuit n groups
    → length groups.items.items ≤ groups.moves
few_groups f marked circuit n groups are =
    let few = few_vertices f marked (vertices_of groups.items.items) groups.moves are.moves in
    let same : length (vertices_of groups.items.items) ≡ length groups.items.items = length-map groups.items.items (λ (g : Group). g.vertex) in
    omega arith

pub are_placed : (f : FlatForm) (marked : List WireId) (circuit : Arena) (n : ℕ) (groups : Groups) → AreGroups f marked circuit n groups
    → ArePlaced circuit groups.items.items
are_placed f marked circuit n groups are = record { at = λ i g e. (are.each i g e).at; once = are.some.once }

-- a group that was read by its number
pub group_at : (groups : List Group) (i : ℕ) (group : Group) → i < length groups → group ≡ get_or groups i group → slice_get groups i ≡ Some group
group_at groups i group l e = slice_get_read groups (length groups) i group refl l e

-- the vertex of the next group is none of the first n groups
pub first_fresh : (groups : List Group) → AreOnce (vertices_of groups) → (n : ℕ) (group : Group) → slice_get groups n ≡ Some group
    → ¬ Contains (vertices_of (take n groups)) group.vertex
first_fresh groups once n group at c =
    let p = place_of (vertices_of (take n groups)) group.vertex c in
    let m = from_map (λ (x : Group). x.vertex) (take n groups) p.0 group.vertex p.1 in
    let l : p.0 < length (take n groups) = slice_get_within (take n groups) p.0 m.0 m.1 in
    let few = length-take n groups in
    let read : get_or groups p.0 m.0 ≡ m.0 = sym (get_or-take n groups p.0 m.0 (omega arith)) ∙ get_or_from_slice_get (take n groups) p.0 m.0 m.0 m.1 in
    let there : slice_get groups p.0 ≡ Some m.0 = slice_get_read groups (length groups) p.0 m.0 refl (omega arith) (sym read) in
    let same : p.0 ≡ n = once p.0 n group.vertex (at_map (λ (x : Group). x.vertex) groups p.0 m.0 there ∙ ap (λ (v : Vertex). Some v) m.2)
    (at_map (λ (x : Group). x.vertex) groups n group at) in
    omega arith

pub first_more : (groups : List Group) (n : ℕ) (group : Group) → slice_get groups n ≡ Some group
    → vertices_of (take n groups) ++ group.vertex ∷ [] ≡ vertices_of (take (n + 1) groups)
first_more groups n group at =
    let l : n < length groups = slice_get_within groups n group at in
    let read : get_or groups n group ≡ group = get_or_from_slice_get groups n group group at in
    let more : take (n + 1) groups ≡ take n groups ++ group ∷ [] = take_more groups n group l ∙ ap (λ (x : Group). take n groups ++ x ∷ []) read in
    sym (ap vertices_of more ∙ map-append (λ (x : Group). x.vertex) (take n groups) (group ∷ []))

pub first_all : (groups : List Group) (n : ℕ) → length groups ≤ n → vertices_of (take n groups) ≡ vertices_of groups
first_all groups n l = ap vertices_of (take_all n groups l)

-- the rows of the first n groups
pub record AreRows (circuit : Arena) (groups : List Group) (n : ℕ) (ids : List (Option VertexId)) : Type 0 where
  pub as_many : length ids ≡ length circuit.vertices
  pub only : (id x : VertexId) → get_or ids id.number None ≡ Some x → (group : Group) × (slice_get groups x.number ≡ Some group) × (group.at ≡ id)
  pub all : (i : ℕ) (group : Group) → i < n → slice_get groups i ≡ Some group → get_or ids group.at.number None ≡ Some (record { number = i })

module _ (circuit : Arena) (groups : List Group) where
  none_yet : (m k : ℕ) → get_or {A = Option VertexId} (replicate m None) k None ≡ None
  none_yet m k = elim (cases_lt k m) [
    | inl l ↦ get_or-replicate m k None None l
    | inr l ↦ get_or_past (replicate m None) k None (let e : length (replicate {A = Option VertexId} m None) ≡ m = length-replicate m None in omega arith)
  ]

  pub rows_start : (ids : List (Option VertexId)) → ids ≡ replicate (length circuit.vertices) None → AreRows circuit groups 0 ids
  rows_start ids e = record {
    as_many = ap length e ∙ length-replicate (length circuit.vertices) None;
    only = λ id x h.
        let none = none_yet (length circuit.vertices) id.number in
        absurd (none-some x (sym none ∙ ap (λ (l : List (Option VertexId)). get_or l id.number None) (sym e) ∙ h));
    all = λ i g l h. absurd (omega arith);
  }

  module _ (ok : IsArena circuit) (placed : ArePlaced circuit groups) where
    -- two groups with one id are one
    same_group : (i j : ℕ) (a b : Group) → slice_get groups i ≡ Some a → slice_get groups j ≡ Some b → a.at ≡ b.at → i ≡ j
    same_group i j a b p q e =
        let same : a.vertex ≡ b.vertex = at_unique circuit.vertices a.at.number a.vertex b.vertex (placed.at i a p)
        (ap (λ (id : VertexId). slice_get circuit.vertices id.number) e ∙ placed.at j b q) in
        placed.once i j b.vertex (at_map (λ (g : Group). g.vertex) groups i a p ∙ ap (λ (v : Vertex). Some v) same)
        (at_map (λ (g : Group). g.vertex) groups j b q)

    pub rows_more : (n : ℕ) (group : Group) (ids : List (Option VertexId)) (new : VertexId) → new.number ≡ n → slice_get groups n ≡ Some group
        → AreRows circuit groups n ids → AreRows circuit groups (n + 1) (slice_set ids group.at.number (Some new))
    rows_more n group ids new ne at rows = record {
      as_many = length-set ids group.at.number (Some new) ∙ rows.as_many;
      only = λ id x e. elim (cases_eq id.number group.at.number) [
        | inl s ↦
            let read : Some new ≡ Some x = sym (set_here id.number s) ∙ e in
            let same : new ≡ x = same_Some new x read in
            (group, ap (λ (y : VertexId). slice_get groups y.number) (sym same) ∙ ap (λ (k : ℕ). slice_get groups k) ne ∙ at, same_id group.at id (sym s))
        | inr o ↦ rows.only id x (sym (get_or-set_other ids group.at.number id.number (Some new) None o) ∙ e)
      ];
      all = λ i g l h. elim (cases_eq g.at.number group.at.number) [
        | inl s ↦
            let same : i ≡ n = same_group i n g group h at (same_id g.at group.at s) in
            set_here g.at.number s ∙ ap (λ (k : ℕ). Some (record { number = k })) (ne ∙ sym same)
        | inr o ↦ get_or-set_other ids group.at.number g.at.number (Some new) None o ∙ rows.all i g (less i g h o l) h
      ];
    }
      where
        within : group.at.number < length ids
        within = let a = slice_get_within circuit.vertices group.at.number group.vertex (placed.at n group at) in let m = rows.as_many in omega arith

        set_here : (k : ℕ) → k ≡ group.at.number → get_or (slice_set ids group.at.number (Some new)) k None ≡ Some new
        set_here k s =
            ap (λ (m : ℕ). get_or (slice_set ids group.at.number (Some new)) m None) s ∙ get_or-set_same ids group.at.number (Some new) None within

        less : (i : ℕ) (g : Group) → slice_get groups i ≡ Some g → (g.at.number ≡ group.at.number → ⊥) → i < n + 1 → i < n
        less i g h o l = elim (cases_eq i n) [
          | inl e ↦
              let same : g ≡ group = at_unique groups i g group h (ap (λ (k : ℕ). slice_get groups k) e ∙ at) in
              absurd (o (ap (λ (x : Group). x.at.number) same))
          | inr ne ↦ omega arith
        ]

    pub rows_end : (n : ℕ) (ids : List (Option VertexId)) → length groups ≤ n → AreRows circuit groups n ids → (g : Arena)
        → g.vertices ≡ vertices_of groups → IsIdTable circuit g ids
    rows_end n ids l rows g vertices = record {
      as_many = rows.as_many;
      only = λ id x e.
          let o = rows.only id x e in
          let h = placed.at x.number o.0 o.1 in
          let at : IsVertexOf g x o.0.vertex =
          ap (λ (vs : List Vertex). slice_get vs x.number) vertices ∙ at_map (λ (y : Group). y.vertex) groups x.number o.0 o.1 in
          (o.0.vertex, ap (λ (y : VertexId). slice_get circuit.vertices y.number) (sym o.2) ∙ h, at);
      all = λ id x v p q.
          let m = from_map (λ (y : Group). y.vertex) groups x.number v (ap (λ (vs : List Vertex). slice_get vs x.number) (sym vertices) ∙ q) in
          let h = placed.at x.number m.0 m.1 in
          let inside = slice_get_within groups x.number m.0 m.1 in
          let same : m.0.at.number ≡ id.number = ok.one_id m.0.at.number id.number v
          (subst (λ (y : Vertex). slice_get circuit.vertices m.0.at.number ≡ Some y) m.2 h) p in
          ap (λ (k : ℕ). get_or ids k None) (sym same) ∙ rows.all x.number m.0 (omega arith) m.1;
    }
