-- The edges of a level's graph by the places of users on chains.
use Rattle.std.proofs.Common.{◌≡◌, ℕ, zero, suc, ◌+◌, ◌-◌, ◌<◌, ◌≤◌, true, false, ◌&&◌, ltb, List, slice_get, option_map, Some, None, Contains, refl, sym, ap, ◌∙◌, subst, inl, inr, arith, ltb-true}
use Rattle.std.proofs.lemmas.Bool.{cases_Bool, and_parts, both_ways}
use Rattle.std.proofs.lemmas.Option.{none-some, same_Some}
use Rattle.flat_core.specs.declared.step.Step.{Step}
use Rattle.flat_core.specs.declared.step.Step.TheVariants.{X, H, P, M}
use Rattle.flat_core.specs.declared.step.WireId.{WireId}
use Rattle.flat_core.specs.Form.{FlatForm}
use Rattle.flat_core.specs.Label.{changes, step_at, top}
use Rattle.flat_core.specs.Ends.{dropped, KeepsEnds}
use Rattle.graph_core.specs.declared.vertex.Vertex.{Vertex}
use Rattle.graph_core.specs.declared.vertex.Vertex.TheVariants.{Forward, Reverse, Free}
use Rattle.graph_core.specs.declared.vertex.EdgeKind.{EdgeKind}
use Rattle.graph_core.specs.declared.vertex.EdgeKind.TheVariants.{Control, Availability}
use Rattle.graph_core.specs.Circuit.{IsVertex, steps_on, chain, maker, restorer, holder, doing, undoing, Edge, along, after_holder, before_next, before_first}
use Rattle.graph_core.specs.Slots.{slot}
use Rattle.graph_core.proofs.Places.{some_at, contains_at, place_of}
use Rattle.graph_core.proofs.Chains.{length-steps_on, from_on, forward_at, reverse_at, same_wire_is, on_chain, place, at_place, placed}
use Rattle.graph_core.proofs.Needs.{label_before-le-top}
use Rattle.reqomp.specs.Level.{Needs, itself, below, IsKept}
use Rattle.reqomp.specs.LevelGraph.{stands_on, IsKeptEdge, LevelGraphIsSame, KeptSlotEdge, in_kept_chain, from_kept_before, to_kept_after, KeptEdgesBySlots}

pub level_graph_is_same : LevelGraphIsSame
level_graph_is_same f marked g is = record {
  vertices = λ v. ((is.vertices v).0, (is.vertices v).1);
  edges = λ u v. (
    (λ a. let e = (is.edges a.arrow.kind u v).0 (record { arrow = a.arrow; there = a.there; is_kind = refl; from = a.from; to = a.to }) in record { from = e.from; to = e.to; kind = a.arrow.kind; edge = e.edge }),
    (λ e. let a = (is.edges e.kind u v).1 (record { from = e.from; to = e.to; edge = e.edge }) in record { arrow = a.arrow; there = a.there; from = a.from; to = a.to }),
  );
}

-- a user of any kind of need stands after the first vertices of a chain, and before the others
record Stands (f : FlatForm) (needs : Vertex → WireId → ℕ → Type 0) (u : Vertex) (w : WireId) (i : ℕ) : Type 0 where
  there : ℕ
  is : there ≡ slot f u w i
  behind : (j : ℕ) → there ≡ suc j → (h : Vertex) × (slice_get (chain f w) j ≡ Some h) × Edge f needs Control h u
  holds : (h : Vertex) → holder f u w i ≡ Some h → (j : ℕ) × (there ≡ suc j) × (slice_get (chain f w) j ≡ Some h)
  empty : holder f u w i ≡ None → there ≡ 0
  ahead : (v : Vertex) → slice_get (chain f w) there ≡ Some v → Edge f needs Availability u v

module _ (f : FlatForm) (needs : Vertex → WireId → ℕ → Type 0) (u : Vertex) (w : WireId) where
  held : (i j : ℕ) (h : Vertex) → suc j ≡ slot f u w i → needs u w i → holder f u w i ≡ Some h → slice_get (chain f w) j ≡ Some h → Stands f needs u w i
  held i j h s n is at = record {
    there = suc j;
    is = s;
    holds = λ x e. (j, refl, at ∙ sym is ∙ e);
    empty = λ e. absurd (none-some h (sym e ∙ is));
    behind = λ k e. let m : j ≡ k = omega arith in (h, ap (λ (x : ℕ). slice_get (chain f w) x) (sym m) ∙ at, after_holder n is);
    ahead = λ v e. before_next n is j at e;
  }

  by_maker : (i : ℕ) → i ≡ slot f u w i → needs u w i → holder f u w i ≡ maker f w i → i ≤ top f w → Stands f needs u w i
  by_maker zero s n is le = record {
    there = 0;
    is = s;
    holds = λ h e. absurd (none-some h (sym is ∙ e));
    empty = λ e. refl;
    behind = λ k e. absurd (omega arith);
    ahead = λ v e. before_first n is e;
  }
  by_maker (suc j) s n is le =
      let x = some_at (steps_on f w) j (rw length-steps_on le) in
      let o = from_on f w j x.0 x.1 in
      let m : maker f w (suc j) ≡ Some (Forward x.0) = ap (option_map Forward) x.1 in
      held (suc j) j (Forward x.0) s n (is ∙ m) (ap (λ (k : ℕ). slice_get (chain f w) k) (sym o.label) ∙ forward_at f w x.0 o.within o.changing)

  by_restorer : KeepsEnds f → (i : ℕ) → top f w + (top f w - i) ≡ slot f u w i → needs u w i → holder f u w i ≡ restorer f w i → dropped f w ≡ true → i < top f w → Stands f needs u w i
  by_restorer ok i s n is d lt =
      let x = some_at (steps_on f w) i (rw length-steps_on lt) in
      let o = from_on f w i x.0 x.1 in
      let m : restorer f w i ≡ Some (Reverse x.0) = ap (option_map Reverse) x.1 in
      let j : ℕ = top f w + (top f w - 1 - i) in
      held i j (Reverse x.0) ((let e : suc j ≡ top f w + (top f w - i) = omega arith in e) ∙ s) n (is ∙ m)
      (ap (λ (k : ℕ). slice_get (chain f w) (top f w + (top f w - 1 - k))) (sym o.label) ∙ reverse_at f w x.0 o.within (ok.dropped_by_x x.0 w o.within o.changing d) o.changing)

stands_for : (f : FlatForm) (needs : Vertex → WireId → ℕ → Type 0) → KeepsEnds f → (u : Vertex) (w : WireId) (i : ℕ) → needs u w i → i ≤ top f w → Stands f needs u w i
stands_for f needs ok (Forward s) w i n le = by_maker f needs (Forward s) w i refl n refl le
stands_for f needs ok (Reverse s) w i n le = elim (cases_Bool (dropped f w && ltb i (top f w))) [
  | inl e ↦ let p = and_parts (dropped f w) (ltb i (top f w)) e in by_restorer f needs (Reverse s) w ok i (rw e refl) n (rw e refl) p.0 (ltb-true i (top f w) p.1)
  | inr e ↦ by_maker f needs (Reverse s) w i (rw e refl) n (rw e refl) le
]
stands_for f needs ok (Free x) w i n le = by_maker f needs (Free x) w i refl n refl le

-- a step changes one wire, so a vertex stands on one chain
pub one_target : (s : Step) (w x : WireId) → changes w s ≡ true → changes x s ≡ true → w ≡ x
one_target (X t a b) w x c d = sym (same_wire_is t w c) ∙ same_wire_is t x d
one_target (H t a) w x c d = sym (same_wire_is t w c) ∙ same_wire_is t x d
one_target (P k a) w x c d = cc
one_target (M y k) w x c d = cc

one_chain : (f : FlatForm) (v : Vertex) (w x : WireId) → on_chain f w v ≡ true → on_chain f x v ≡ true → w ≡ x
one_chain f (Forward s) w x c d = one_target (step_at f s) w x c d
one_chain f (Reverse s) w x c d = one_target (step_at f s) w x c d
one_chain f (Free y) w x c d = sym (same_wire_is y w c) ∙ same_wire_is y x d

module _ (f : FlatForm) (marked : List WireId) (ok : KeepsEnds f) where
  kept_on : (w : WireId) (j : ℕ) (v : Vertex) → ¬ Contains marked w → slice_get (chain f w) j ≡ Some v → IsKept f marked v
  kept_on w j v n h =
      let a = placed f ok w j v h in
      record {
        vertex = a.vertex;
        unmarked = λ x m c.
            let p = place_of (chain f x) v c in
            let b = placed f ok x p.0 v p.1 in
            n (subst (Contains marked) (one_chain f v x w b.on a.on) m);
      }

  on_wire : (v : Vertex) (w : WireId) → stands_on f v w ≡ on_chain f w v
  on_wire (Forward s) w = refl
  on_wire (Reverse s) w = refl
  on_wire (Free x) w = refl

  kept_told : (v : Vertex) → IsKept f marked v → (w : WireId) → Contains marked w → stands_on f v w ≡ false
  kept_told v k w m = elim (cases_Bool (stands_on f v w)) [
    | inl t ↦ absurd (k.unmarked w m (contains_at (chain f w) (place f w v) v (at_place f w v k.vertex (sym (on_wire v w) ∙ t))))
    | inr e ↦ e
  ]

  told_kept : (v : Vertex) → IsVertex f v → ((w : WireId) → Contains marked w → stands_on f v w ≡ false) → IsKept f marked v
  told_kept v h off = record {
    vertex = h;
    unmarked = λ w m c.
        let p = place_of (chain f w) v c in
        let a = placed f ok w p.0 v p.1 in
        both_ways (stands_on f v w) (off w m) (on_wire v w ∙ a.on);
  }

  needs_low : (u : Vertex) (w : WireId) (i : ℕ) → Needs f marked u w i → i ≤ top f w
  needs_low u w i (itself (doing {s = s} l c) n) = label_before-le-top f s w
  needs_low u w i (itself (undoing {s = s} l d c) n) = label_before-le-top f s w
  needs_low u w i (below {s = s} r q n) = label_before-le-top f s w

  needs_unmarked : (u : Vertex) (w : WireId) (i : ℕ) → Needs f marked u w i → ¬ Contains marked w
  needs_unmarked u w i (itself c n) = n
  needs_unmarked u w i (below r q n) = n

  standing : (u : Vertex) (w : WireId) (i : ℕ) → Needs f marked u w i → Stands f (Needs f marked) u w i
  standing u w i n = stands_for f (Needs f marked) ok u w i n (needs_low u w i n)

  to_slots : (kind : EdgeKind) (a b : Vertex) → IsKept f marked a → IsKept f marked b → Edge f (Needs f marked) kind a b → KeptSlotEdge f marked kind a b
  to_slots kind a b from to (along w j p q) = in_kept_chain w j (λ m. from.unmarked w m (contains_at (chain f w) j a p)) p q
  to_slots kind h u from to (after_holder {w = w} {i = i} n is) =
      let s = standing u w i n in
      let r = s.holds h is in
      from_kept_before to n r.0 (sym s.is ∙ r.1) r.2
  to_slots kind u v from to (before_next {h = h} {w = w} {i = i} n is j p q) =
      let s = standing u w i n in
      let r = s.holds h is in
      let same : j ≡ r.0 = sym (placed f ok w j h p).at ∙ (placed f ok w r.0 h r.2).at in
      to_kept_after from n (ap (λ (k : ℕ). slice_get (chain f w) k) (sym s.is ∙ r.1 ∙ ap suc (sym same)) ∙ q)
  to_slots kind u v from to (before_first {w = w} {i = i} n is p) =
      let s = standing u w i n in
      to_kept_after from n (ap (λ (k : ℕ). slice_get (chain f w) k) (sym s.is ∙ s.empty is) ∙ p)

  from_slots : (kind : EdgeKind) (a b : Vertex) → KeptSlotEdge f marked kind a b → IsKeptEdge f marked kind a b
  from_slots kind a b (in_kept_chain w j n p q) = record { from = kept_on w j a n p; to = kept_on w (suc j) b n q; edge = along w j p q }
  from_slots kind h u (from_kept_before {w = w} {i = i} k n j e p) =
      let s = standing u w i n in
      let r = s.behind j (s.is ∙ e) in
      record {
        from = kept_on w j h (needs_unmarked u w i n) p;
        to = k;
        edge = subst (λ (x : Vertex). Edge f (Needs f marked) Control x u) (same_Some r.0 h (sym r.1 ∙ p)) r.2;
      }
  from_slots kind u v (to_kept_after {w = w} {i = i} k n p) =
      let s = standing u w i n in
      record {
        from = k;
        to = kept_on w (slot f u w i) v (needs_unmarked u w i n) p;
        edge = s.ahead v (ap (λ (m : ℕ). slice_get (chain f w) m) s.is ∙ p);
      }

pub kept_edges_by_slots : KeptEdgesBySlots
kept_edges_by_slots f marked ok = record {
  told = λ v. ((λ k. (k.vertex, kept_told f marked ok v k)), (λ t. told_kept f marked ok v t.0 t.1));
  kept = kept_on f marked ok;
  edges = λ kind a b. ((λ e. to_slots f marked ok kind a b e.from e.to e.edge), from_slots f marked ok kind a b);
}
