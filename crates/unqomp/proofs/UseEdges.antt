-- The edges of one more use.
use Rattle.std.proofs.Common.{◌≡◌, ℕ, zero, suc, ◌-◌, ◌<◌, true, List, [], ◌∷◌, ◌++◌, length, slice_get, Option, Some, None, IfSome, Contains, refl, sym, ap, ◌∙◌, subst, inl, inr, arith}
use Rattle.std.proofs.lemmas.Option.{same_Some, slice_get_within}
use Rattle.std.proofs.lemmas.List.Elements.{Contains-push, Contains-push_cases, Contains-append_left, Contains-append_right, Contains-append_cases}
use Rattle.flat_core.specs.declared.step.Step.{Step}
use Rattle.flat_core.specs.declared.step.Step.TheVariants.{X, H, P, M}
use Rattle.flat_core.specs.declared.step.WireId.{WireId}
use Rattle.flat_core.specs.Form.{FlatForm}
use Rattle.flat_core.specs.Label.{changes, step_at}
use Rattle.flat_core.specs.Ends.{KeepsEnds}
use Rattle.flat_core.proofs.Labels.{same_wire_is}
use Rattle.graph_core.specs.declared.vertex.Vertex.{Vertex}
use Rattle.graph_core.specs.declared.vertex.Vertex.TheVariants.{Forward, Reverse, Free}
use Rattle.graph_core.specs.declared.vertex.EdgeKind.{EdgeKind}
use Rattle.graph_core.specs.declared.vertex.EdgeKind.TheVariants.{Target, Control, Availability}
use Rattle.graph_core.specs.declared.graph.VertexId.{VertexId}
use Rattle.graph_core.specs.declared.graph.Arrow.{Arrow}
use Rattle.graph_core.specs.Arena.{Arena, IsArena, IsFreeFor, IsVertexOf, with_arrows, control, availability, use_arrows}
use Rattle.graph_core.specs.Circuit.{chain}
use Rattle.graph_core.specs.Slots.{slot, SlotEdge, in_chain, from_before, to_after}
use Rattle.graph_core.proofs.Places.{some_at}
use Rattle.graph_core.proofs.Chains.{on_chain, placed}
use Rattle.unqomp.specs.declared.uses.Use.{Use}
use Rattle.unqomp.specs.GraphOf.{HasArrowOf, HasEdges}
use Rattle.unqomp.specs.UseList.{InUses}
use Rattle.unqomp.specs.Making.{ids_on, StandsOnce, next_arrows, held_arrows, slot_arrows, IsWhole, bare}
use Rattle.unqomp.proofs.Ids.{vertex_at, id_at}
use Rattle.unqomp.proofs.Stages.{contains_nil, contains_one}

-- a vertex stands on one chain only, once
changes_one : (s : Step) (w x : WireId) → changes w s ≡ true → changes x s ≡ true → w ≡ x
changes_one (X t a b) w x p q = sym (same_wire_is t w p) ∙ same_wire_is t x q
changes_one (H t a) w x p q = sym (same_wire_is t w p) ∙ same_wire_is t x q
changes_one (P k a) w x p q = cc
changes_one (M v n) w x p q = cc

on_one : (f : FlatForm) (w x : WireId) (v : Vertex) → on_chain f w v ≡ true → on_chain f x v ≡ true → w ≡ x
on_one f w x (Forward s) p q = changes_one (step_at f s) w x p q
on_one f w x (Reverse s) p q = changes_one (step_at f s) w x p q
on_one f w x (Free y) p q = sym (same_wire_is y w p) ∙ same_wire_is y x q

pub chains_once : (f : FlatForm) → KeepsEnds f → StandsOnce (chain f)
chains_once f ok w x i j v p q =
    let a = placed f ok w i v p in
    let b = placed f ok x j v q in
    let same : w ≡ x = on_one f w x v a.on b.on in
    let back : slice_get (chain f w) j ≡ Some v = ap (λ (y : WireId). slice_get (chain f y) j) same ∙ q in
    (same, sym a.at ∙ (placed f ok w j v back).at)

-- the edges at a slot
pub data IsAtSlot (ids : List VertexId) (user : VertexId) (k : ℕ) : Arrow → Type 0 where
  behind : (j : ℕ) (holder : VertexId) → k ≡ suc j → slice_get ids j ≡ Some holder → IsAtSlot ids user k (control holder user)
  ahead : (next : VertexId) → slice_get ids k ≡ Some next → IsAtSlot ids user k (availability user next)

module _ (ids : List VertexId) (user : VertexId) where
  next_cases : (k : ℕ) (o : Option VertexId) → slice_get ids k ≡ o → (e : Arrow) → Contains (next_arrows user o) e → IsAtSlot ids user k e
  next_cases k None is e c = absurd (contains_nil e c)
  next_cases k (Some next) is e c = subst (IsAtSlot ids user k) (contains_one (availability user next) e c) (ahead next is)

  use_cases : (j : ℕ) (holder : VertexId) → slice_get ids j ≡ Some holder → (o : Option VertexId) → slice_get ids (suc j) ≡ o → (e : Arrow) → Contains (use_arrows holder user o) e → IsAtSlot ids user (suc j) e
  use_cases j holder at None is e c = subst (IsAtSlot ids user (suc j)) (contains_one (control holder user) e c) (behind j holder refl at)
  use_cases j holder at (Some next) is e c = elim (Contains-append_cases (control holder user ∷ []) (availability user next ∷ []) e c) [
    | inl a ↦ subst (IsAtSlot ids user (suc j)) (contains_one (control holder user) e a) (behind j holder refl at)
    | inr b ↦ subst (IsAtSlot ids user (suc j)) (contains_one (availability user next) e b) (ahead next is)
  ]

  held_cases : (j : ℕ) (o : Option VertexId) → slice_get ids j ≡ o → (e : Arrow) → Contains (held_arrows o user (slice_get ids (suc j))) e → IsAtSlot ids user (suc j) e
  held_cases j None at e c = absurd (contains_nil e c)
  held_cases j (Some holder) at e c = use_cases j holder at (slice_get ids (suc j)) refl e c

  pub slot_cases : (k : ℕ) (e : Arrow) → Contains (slot_arrows ids user k) e → IsAtSlot ids user k e
  slot_cases zero e c = next_cases 0 (slice_get ids 0) refl e c
  slot_cases (suc j) e c = held_cases j (slice_get ids j) refl e c

  control_in : (holder : VertexId) (o : Option VertexId) → Contains (use_arrows holder user o) (control holder user)
  control_in holder None = (0, omega arith, refl)
  control_in holder (Some next) = (0, omega arith, refl)

  pub slot_control : (j : ℕ) (holder : VertexId) → slice_get ids j ≡ Some holder → Contains (slot_arrows ids user (suc j)) (control holder user)
  slot_control j holder at = subst (λ (o : Option VertexId). Contains (held_arrows o user (slice_get ids (suc j))) (control holder user)) (sym at) (control_in holder (slice_get ids (suc j)))

  pub slot_availability : (k : ℕ) (next : VertexId) → slice_get ids k ≡ Some next → Contains (slot_arrows ids user k) (availability user next)
  slot_availability zero next at = subst (λ (o : Option VertexId). Contains (next_arrows user o) (availability user next)) (sym at) (0, omega arith, refl)
  slot_availability (suc j) next at =
      let within : suc j < length ids = slice_get_within ids (suc j) next at in
      let holder = some_at ids j (omega arith) in
      subst (λ (o : Option VertexId). Contains (held_arrows o user (slice_get ids (suc j))) (availability user next)) (sym holder.1)
      (subst (λ (o : Option VertexId). Contains (use_arrows holder.0 user o) (availability user next)) (sym at) (1, omega arith, refl))

-- the same, for a slot that is told to be behind the first place
pub behind_slot : (ids : List VertexId) (user : VertexId) (k : ℕ) → (k ≡ 0 → ⊥) → (holder : VertexId) → slice_get ids (k - 1) ≡ Some holder → Contains (slot_arrows ids user k) (control holder user)
behind_slot ids user zero n holder at = absurd (n refl)
behind_slot ids user (suc j) n holder at = slot_control ids user j holder (ap (λ (i : ℕ). slice_get ids i) (let e : j ≡ suc j - 1 = omega arith in e) ∙ at)

pub all_next : (ids : List VertexId) (user : VertexId) (k : ℕ) (Holds : Arrow → Type 0) → ((e : Arrow) → Contains (slot_arrows ids user k) e → Holds e) → (o : Option VertexId) → o ≡ slice_get ids k → IfSome o (λ next. Holds (availability user next))
all_next ids user k holds all None e = tt
all_next ids user k holds all (Some next) e = all (availability user next) (slot_availability ids user k next (sym e))

-- where more uses are told, there are more edges
pub slot_map : (f : FlatForm) (few many : Vertex → WireId → ℕ → Type 0) → ((u : Vertex) (w : WireId) (i : ℕ) → few u w i → many u w i) → (kind : EdgeKind) (a b : Vertex) → SlotEdge f few kind a b → SlotEdge f many kind a b
slot_map f few many m kind a b (in_chain w j p q) = in_chain w j p q
slot_map f few many m kind h u (from_before {u = x} {w = w} {i = i} n j e p) = from_before (m x w i n) j e p
slot_map f few many m kind u v (to_after {u = x} {w = w} {i = i} n p) = to_after (m x w i n) p

module _ (f : FlatForm) (keeps : KeepsEnds f) (g : Arena) (ok : IsArena g) (chains : List (List VertexId)) (whole : IsWhole f g.vertices chains) (done : List Use) (so_far : HasEdges g (SlotEdge f (InUses done))) (u : Vertex) (w : WireId) (i : ℕ) (inside : w.number < length f.wires) (fresh : (j : ℕ) → ¬ Contains done (record { user = u; wire = w; label = j })) (user : VertexId) (is_user : IsVertexOf g user u) where
  abbrev it : Use
  it = record { user = u; wire = w; label = i }

  abbrev ids : List VertexId
  ids = ids_on chains w

  vertex_on : (j : ℕ) (id : VertexId) → slice_get ids j ≡ Some id → (v : Vertex) × (slice_get (chain f w) j ≡ Some v) × IsVertexOf g id v
  vertex_on j id at = vertex_at (bare g.vertices) ids (chain f w) (whole.each w inside) j id at

  -- no use of this user on this wire has its edges yet
  no_control : (h : Vertex) (j : ℕ) → slice_get (chain f w) j ≡ Some h → SlotEdge f (InUses done) Control h u → ⊥
  no_control h j at (from_before {w = x} {i = l} n k e p) =
      let same : w ≡ x = (chains_once f keeps w x j k h at p).0 in
      fresh l (subst (λ (y : WireId). Contains done (record { user = u; wire = y; label = l })) (sym same) n)

  no_availability : (v : Vertex) (j : ℕ) → slice_get (chain f w) j ≡ Some v → SlotEdge f (InUses done) Availability u v → ⊥
  no_availability v j at (to_after {w = x} {i = l} n p) =
      let same : w ≡ x = (chains_once f keeps w x j (slot f u x l) v at p).0 in
      fresh l (subst (λ (y : WireId). Contains done (record { user = u; wire = y; label = l })) (sym same) n)

  free_at : (k : ℕ) (e : Arrow) → IsAtSlot ids user k e → IsFreeFor g e
  free_at k e (behind j holder is at) =
      let v = vertex_on j holder at in
      record {
        ends = (slice_get_within g.vertices holder.number v.0 v.2, slice_get_within g.vertices user.number u is_user);
        fresh = λ c. no_control v.0 j v.1 ((so_far Control v.0 u).0 (record { arrow = control holder user; there = c; is_kind = refl; from = v.2; to = is_user }));
        first_out = λ t. cc;
        first_in = λ t. cc;
      }
  free_at k e (ahead next at) =
      let v = vertex_on k next at in
      record {
        ends = (slice_get_within g.vertices user.number u is_user, slice_get_within g.vertices next.number v.0 v.2);
        fresh = λ c. no_availability v.0 k v.1 ((so_far Availability u v.0).0 (record { arrow = availability user next; there = c; is_kind = refl; from = is_user; to = v.2 }));
        first_out = λ t. cc;
        first_in = λ t. cc;
      }

  pub use_free : (e : Arrow) → Contains (slot_arrows ids user (slot f u w i)) e → IsFreeFor g e
  use_free e c = free_at (slot f u w i) e (slot_cases ids user (slot f u w i) e c)

  abbrev more : List Arrow
  more = slot_arrows ids user (slot f u w i)

  abbrev all : List Use
  all = done ++ it ∷ []

  -- an edge at the slot is one of the use
  new_edge : (kind : EdgeKind) (a b : Vertex) (e : Arrow) → IsAtSlot ids user (slot f u w i) e → e.kind ≡ kind → IsVertexOf g e.from a → IsVertexOf g e.to b → SlotEdge f (InUses all) kind a b
  new_edge kind a b e (behind j holder is at) k p q =
      let v = vertex_on j holder at in
      let a_is : v.0 ≡ a = same_Some v.0 a (sym v.2 ∙ p) in
      let b_is : u ≡ b = same_Some u b (sym is_user ∙ q) in
      subst (λ (z : EdgeKind). SlotEdge f (InUses all) z a b) k
      (subst (λ (z : Vertex). SlotEdge f (InUses all) Control z b) a_is
      (subst (SlotEdge f (InUses all) Control v.0) b_is (from_before {u = u} {w = w} {i = i} (Contains-push done it) j is v.1)))
  new_edge kind a b e (ahead next at) k p q =
      let v = vertex_on (slot f u w i) next at in
      let a_is : u ≡ a = same_Some u a (sym is_user ∙ p) in
      let b_is : v.0 ≡ b = same_Some v.0 b (sym v.2 ∙ q) in
      subst (λ (z : EdgeKind). SlotEdge f (InUses all) z a b) k
      (subst (λ (z : Vertex). SlotEdge f (InUses all) Availability z b) a_is
      (subst (SlotEdge f (InUses all) Availability u) b_is (to_after {u = u} {w = w} {i = i} (Contains-push done it) v.1)))

  old : (kind : EdgeKind) (a b : Vertex) → SlotEdge f (InUses done) kind a b → HasArrowOf (with_arrows g more) kind a b
  old kind a b s =
      let h = (so_far kind a b).1 s in
      record { arrow = h.arrow; there = Contains-append_left g.arrows more h.arrow h.there; is_kind = h.is_kind; from = h.from; to = h.to }

  added : (kind : EdgeKind) (a b : Vertex) (e : Arrow) → Contains more e → e.kind ≡ kind → IsVertexOf g e.from a → IsVertexOf g e.to b → HasArrowOf (with_arrows g more) kind a b
  added kind a b e c k p q = record { arrow = e; there = Contains-append_right g.arrows more e c; is_kind = k; from = p; to = q }

  new_control : (h : Vertex) (j : ℕ) → slot f u w i ≡ suc j → slice_get (chain f w) j ≡ Some h → HasArrowOf (with_arrows g more) Control h u
  new_control h j e at =
      let id = id_at (bare g.vertices) ids (chain f w) (whole.each w inside) j h at in
      added Control h u (control id.0 user) (subst (λ (k : ℕ). Contains (slot_arrows ids user k) (control id.0 user)) (sym e) (slot_control ids user j id.0 id.1)) refl id.2 is_user

  new_availability : (v : Vertex) → slice_get (chain f w) (slot f u w i) ≡ Some v → HasArrowOf (with_arrows g more) Availability u v
  new_availability v at =
      let id = id_at (bare g.vertices) ids (chain f w) (whole.each w inside) (slot f u w i) v at in
      added Availability u v (availability user id.0) (slot_availability ids user (slot f u w i) id.0 id.1) refl is_user id.2

  back : (kind : EdgeKind) (a b : Vertex) → SlotEdge f (InUses all) kind a b → HasArrowOf (with_arrows g more) kind a b
  back kind a b (in_chain x j p q) = old Target a b (in_chain x j p q)
  back kind h v (from_before {w = x} {i = l} n j e p) = elim (Contains-push_cases done it (record { user = v; wire = x; label = l }) n) [
    | inl c ↦ old Control h v (from_before c j e p)
    | inr s ↦
        let wire : w ≡ x = ap (λ (y : Use). y.wire) s in
        let label : i ≡ l = ap (λ (y : Use). y.label) s in
        let who : u ≡ v = ap (λ (y : Use). y.user) s in
        let at : slice_get (chain f w) j ≡ Some h = ap (λ (y : WireId). slice_get (chain f y) j) wire ∙ p in
        let is : slot f u w i ≡ suc j = ap (λ (y : Use). slot f y.user y.wire y.label) s ∙ e in
        subst (HasArrowOf (with_arrows g more) Control h) who (new_control h j is at)
  ]
  back kind v y (to_after {w = x} {i = l} n p) = elim (Contains-push_cases done it (record { user = v; wire = x; label = l }) n) [
    | inl c ↦ old Availability v y (to_after c p)
    | inr s ↦
        let who : u ≡ v = ap (λ (z : Use). z.user) s in
        let at : slice_get (chain f w) (slot f u w i) ≡ Some y = ap (λ (z : Use). slice_get (chain f z.wire) (slot f z.user z.wire z.label)) s ∙ p in
        subst (λ (z : Vertex). HasArrowOf (with_arrows g more) Availability z y) who (new_availability y at)
  ]

  pub use_edges : HasEdges (with_arrows g more) (SlotEdge f (InUses all))
  use_edges kind a b = (
    λ h. elim (Contains-append_cases g.arrows more h.arrow h.there) [
      | inl c ↦ slot_map f (InUses done) (InUses all) (λ v x l n. Contains-append_left done (it ∷ []) (record { user = v; wire = x; label = l }) n) kind a b ((so_far kind a b).0 (record { arrow = h.arrow; there = c; is_kind = h.is_kind; from = h.from; to = h.to }))
      | inr c ↦ new_edge kind a b h.arrow (slot_cases ids user (slot f u w i) h.arrow c) h.is_kind h.from h.to
    ],
    λ s. back kind a b s,
  )
