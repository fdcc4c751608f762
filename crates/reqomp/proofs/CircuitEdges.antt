-- The vertices of a circuit graph are listed, and its edges are decided.
use Rattle.std.proofs.Common.{◌≡◌, ℕ, zero, suc, ◌+◌, length-append, ◌<◌, ◌≤◌, Bool, true, List, ◌++◌, length, slice_get, Some, Contains, refl, ap, ◌∙◌, subst, inl, inr, arith, le_refl}
use Rattle.std.proofs.lemmas.Bool.{cases_lt, cases_Bool, both_ways}
use Rattle.std.proofs.lemmas.List.Elements.{Contains-append_left, Contains-append_right}
use Rattle.flat_core.specs.declared.step.Step.{Step}
use Rattle.flat_core.specs.declared.step.Step.TheVariants.{X, H, P, M}
use Rattle.flat_core.specs.declared.step.WireId.{WireId}
use Rattle.flat_core.specs.Form.{FlatForm}
use Rattle.flat_core.specs.Label.{step_id, wire_id, changes, step_at, EachNamed}
use Rattle.flat_core.specs.Ends.{freed, undone, KeepsEnds}
use Rattle.flat_core.specs.Sound.{IsFlat}
use Rattle.flat_core.proofs.Kept.{keeps_ends}
use Rattle.graph_core.specs.declared.vertex.Vertex.{Vertex}
use Rattle.graph_core.specs.declared.vertex.Vertex.TheVariants.{Forward, Reverse, Free}
use Rattle.graph_core.specs.declared.vertex.EdgeKind.{EdgeKind}
use Rattle.graph_core.specs.declared.vertex.EdgeKind.TheVariants.{Target, Control, Availability}
use Rattle.graph_core.specs.Digraph.{IsLinearOrder, IsAcyclic}
use Rattle.graph_core.specs.Circuit.{IsVertex, chain, Uses, Edge, circuit_graph}
use Rattle.graph_core.specs.Slots.{slot, SlotEdge, in_chain, from_before, to_after}
use Rattle.graph_core.proofs.BySlots.{edges_by_slots}
use Rattle.graph_core.proofs.Chains.{same_wire_is, on_chain, place, placed}
use Rattle.graph_core.proofs.EdgeEnds.{edge_ends}
use Rattle.topo_order.specs.ReadyOrder.{IsReadyOrder}
use Rattle.unqomp.specs.declared.uses.Use.{Use}
use Rattle.unqomp.specs.UseList.{uses_before}
use Rattle.unqomp.proofs.Last.{freed_there}
use Rattle.unqomp.proofs.UseLists.{IsUse, before_sound, before_whole}
use Rattle.reqomp.proofs.Search.{Decided, both, find_in, listed, listed_at, length-listed, same_vertex, stands_at}
use Rattle.reqomp.proofs.Greedy.{IsFinite, order_within, acyclic_ordered}

is_true : (b : Bool) → Decided (b ≡ true)
is_true b = elim (cases_Bool b) [ inl t ↦ inl t | inr f ↦ inr (λ t. both_ways b f t) ]

is_below : (m n : ℕ) → Decided (m < n)
is_below m n = elim (cases_lt m n) [ inl l ↦ inl l | inr g ↦ inr (λ l. omega arith) ]

changed_there : (s : Step) (n : ℕ) (w : WireId) → EachNamed (λ x. x.number < n) s → changes w s ≡ true → w.number < n
changed_there (X t a b) n w e c = subst (λ (x : WireId). x.number < n) (same_wire_is t w c) e.0
changed_there (H t a) n w e c = subst (λ (x : WireId). x.number < n) (same_wire_is t w c) e.0
changed_there (P k a) n w e c = cc
changed_there (M x k) n w e c = cc

module _ (f : FlatForm) (flat : IsFlat f) where
  ok : KeepsEnds f
  ok = keeps_ends f flat

  abbrev all : List Vertex
  all =
      listed (λ n. Forward (step_id n)) (length f.steps)
      ++ (listed (λ n. Reverse (step_id n)) (length f.steps) ++ listed (λ n. Free (wire_id n)) (length f.wires))

  each : (v : Vertex) → IsVertex f v → Contains all v
  each (Forward s) h = Contains-append_left (listed (λ n. Forward (step_id n)) (length f.steps)) _ (Forward s) (listed_at (λ n. Forward (step_id n)) (length f.steps) s.number h)
  each (Reverse s) h =
      Contains-append_right (listed (λ n. Forward (step_id n)) (length f.steps)) _ (Reverse s)
      (Contains-append_left (listed (λ n. Reverse (step_id n)) (length f.steps)) _ (Reverse s) (listed_at (λ n. Reverse (step_id n)) (length f.steps) s.number h.0))
  each (Free w) h =
      Contains-append_right (listed (λ n. Forward (step_id n)) (length f.steps)) _ (Free w)
      (Contains-append_right (listed (λ n. Reverse (step_id n)) (length f.steps)) _ (Free w) (listed_at (λ n. Free (wire_id n)) (length f.wires) w.number (freed_there f w h)))

  vertex : (v : Vertex) → Decided (IsVertex f v)
  vertex (Forward s) = is_below s.number (length f.steps)
  vertex (Reverse s) = both (is_below s.number (length f.steps)) (is_true (undone f s))
  vertex (Free w) = is_true (freed f w)

  -- what stands on the chain of a wire is a vertex of a wire that is there
  chain_there : (w : WireId) (j : ℕ) (v : Vertex) → slice_get (chain f w) j ≡ Some v → w.number < length f.wires
  chain_there w j v h = go v (placed f ok w j v h).vertex (placed f ok w j v h).on
    where
      go : (v : Vertex) → IsVertex f v → on_chain f w v ≡ true → w.number < length f.wires
      go (Forward s) h on = changed_there (step_at f s) (length f.wires) w (flat.in_range s h) on
      go (Reverse s) h on = changed_there (step_at f s) (length f.wires) w (flat.in_range s h.0) on
      go (Free x) h on = subst (λ (y : WireId). y.number < length f.wires) (same_wire_is x w on) (freed_there f x h)

  abbrev uses : List Use
  uses = uses_before f (length f.steps)

  -- an edge of a kind, by a wire or by a use
  abbrev AtWire : Vertex → Vertex → WireId → Type 0
  AtWire a b w = (slice_get (chain f w) (place f w a) ≡ Some a) × (slice_get (chain f w) (suc (place f w a)) ≡ Some b)

  abbrev Behind : ℕ → List Vertex → Vertex → Type 0
  Behind k on h = (j : ℕ) × (k ≡ suc j) × (slice_get on j ≡ Some h)

  abbrev AtHolder : Vertex → Vertex → Use → Type 0
  AtHolder h u x = (x.user ≡ u) × Behind (slot f x.user x.wire x.label) (chain f x.wire) h

  abbrev AtNext : Vertex → Vertex → Use → Type 0
  AtNext u v x = (x.user ≡ u) × (slice_get (chain f x.wire) (slot f x.user x.wire x.label) ≡ Some v)

  behind : (k : ℕ) (on : List Vertex) (h : Vertex) → Decided (Behind k on h)
  behind zero on h = inr (λ r. let z = r.1 in omega arith)
  behind (suc k) on h = elim (stands_at on k h) [
    | inl s ↦ inl (k, refl, s)
    | inr n ↦ inr (λ r. n (subst (λ (i : ℕ). slice_get on i ≡ Some h) (let z = r.1 in omega arith) r.2))
  ]

  at_wire : (a b : Vertex) (w : WireId) → Decided (AtWire a b w)
  at_wire a b w = both (stands_at (chain f w) (place f w a) a) (stands_at (chain f w) (suc (place f w a)) b)

  at_holder : (h u : Vertex) (x : Use) → Decided (AtHolder h u x)
  at_holder h u x = both (same_vertex x.user u) (behind (slot f x.user x.wire x.label) (chain f x.wire) h)

  at_next : (u v : Vertex) (x : Use) → Decided (AtNext u v x)
  at_next u v x = both (same_vertex x.user u) (stands_at (chain f x.wire) (slot f x.user x.wire x.label) v)

  abbrev wires : List WireId
  wires = listed wire_id (length f.wires)

  abbrev Found : EdgeKind → Vertex → Vertex → Type 0
  Found Target a b = (w : WireId) × Contains wires w × AtWire a b w
  Found Control a b = (x : Use) × Contains uses x × AtHolder a b x
  Found Availability a b = (x : Use) × Contains uses x × AtNext a b x

  decide : (kind : EdgeKind) (a b : Vertex) → Decided (Found kind a b)
  decide Target a b = elim (find_in (AtWire a b) (at_wire a b) wires) [ inl r ↦ inl r | inr none ↦ inr (λ r. none r.0 r.1 r.2) ]
  decide Control a b = elim (find_in (AtHolder a b) (at_holder a b) uses) [ inl r ↦ inl r | inr none ↦ inr (λ r. none r.0 r.1 r.2) ]
  decide Availability a b = elim (find_in (AtNext a b) (at_next a b) uses) [ inl r ↦ inl r | inr none ↦ inr (λ r. none r.0 r.1 r.2) ]

  found : (kind : EdgeKind) (a b : Vertex) → SlotEdge f (Uses f) kind a b → Found kind a b
  found kind a b (in_chain w j p q) =
      let at : place f w a ≡ j = (placed f ok w j a p).at in (
        w,
        listed_at wire_id (length f.wires) w.number (chain_there w j a p),
        (ap (λ (i : ℕ). slice_get (chain f w) i) at ∙ p, ap (λ (i : ℕ). slice_get (chain f w) (suc i)) at ∙ q),
      )
  found kind h u (from_before {w = w} {i = i} n j e p) = (record { user = u; wire = w; label = i }, before_whole f u w i n, (refl, (j, e, p)))
  found kind u v (to_after {w = w} {i = i} n p) = (record { user = u; wire = w; label = i }, before_whole f u w i n, (refl, p))

  edge_of : (kind : EdgeKind) (a b : Vertex) → Found kind a b → SlotEdge f (Uses f) kind a b
  edge_of Target a b r = in_chain r.0 (place f r.0 a) r.2.0 r.2.1
  edge_of Control a b r =
      let n : IsUse f r.0 = before_sound f (length f.steps) (le_refl (length f.steps)) r.0 r.1 in
      subst (SlotEdge f (Uses f) Control a) r.2.0 (from_before n r.2.1.0 r.2.1.1 r.2.1.2)
  edge_of Availability a b r =
      let n : IsUse f r.0 = before_sound f (length f.steps) (le_refl (length f.steps)) r.0 r.1 in
      subst (λ (u : Vertex). SlotEdge f (Uses f) Availability u b) r.2.0 (to_after n r.2.1)

  edge_of_kind : (kind : EdgeKind) (a b : Vertex) → Decided (Edge f (Uses f) kind a b)
  edge_of_kind kind a b =
      let s = edges_by_slots f ok kind a b in
      elim (decide kind a b) [ inl r ↦ inl (s.1 (edge_of kind a b r)) | inr none ↦ inr (λ e. none (found kind a b (s.0 e))) ]

  edge : (a b : Vertex) → Decided ((kind : EdgeKind) × Edge f (Uses f) kind a b)
  edge a b = elim (edge_of_kind Target a b) [
    | inl e ↦ inl (Target, e)
    | inr t ↦ elim (edge_of_kind Control a b) [
      | inl e ↦ inl (Control, e)
      | inr c ↦ elim (edge_of_kind Availability a b) [ inl e ↦ inl (Availability, e) | inr v ↦ inr (λ e. none t c v e.0 e.1) ]
    ]
  ]
    where
      none : ¬ Edge f (Uses f) Target a b → ¬ Edge f (Uses f) Control a b → ¬ Edge f (Uses f) Availability a b → (kind : EdgeKind) → ¬ Edge f (Uses f) kind a b
      none t c v Target = t
      none t c v Control = c
      none t c v Availability = v

  finite : IsFinite (circuit_graph f) all
  finite = record { each = each; vertex = vertex; edge = edge; from = λ u v e. (edge_ends f ok e.0 u v e.1).0 }

-- a circuit graph without cycles has a ready order
pub acyclic_has_order : (f : FlatForm) → IsFlat f → IsAcyclic (circuit_graph f) → (order : List Vertex) × IsReadyOrder (circuit_graph f) order
acyclic_has_order f flat none = acyclic_ordered (circuit_graph f) (all f flat) (finite f flat) none

-- a linear order has at most 500,000 vertices
pub few_in_order : (f : FlatForm) → IsFlat f → (order : List Vertex) → IsLinearOrder (circuit_graph f) order → length order ≤ 500000
few_in_order f flat order o =
    let within : length order ≤ length (all f flat) = order_within (circuit_graph f) (all f flat) (finite f flat) order o in
    let parts : length (all f flat) ≡ length f.steps + (length f.steps + length f.wires) = rw length-append rw length-append rw length-listed rw length-listed rw length-listed refl in
    let steps : length f.steps ≤ 200000 = flat.few_steps in
    let wires : length f.wires ≤ 100000 = flat.few_wires in
    omega arith
