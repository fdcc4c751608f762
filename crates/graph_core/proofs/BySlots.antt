-- The edges by the places of users on chains.
use Rattle.std.proofs.Common.{◌≡◌, ℕ, suc, slice_get, sym, ap, ◌∙◌, subst}
use Rattle.std.proofs.lemmas.Option.{same_Some}
use Rattle.flat_core.specs.Form.{FlatForm}
use Rattle.flat_core.specs.Ends.{KeepsEnds}
use Rattle.graph_core.specs.declared.vertex.Vertex.{Vertex}
use Rattle.graph_core.specs.declared.vertex.EdgeKind.{EdgeKind}
use Rattle.graph_core.specs.declared.vertex.EdgeKind.TheVariants.{Control}
use Rattle.graph_core.specs.Circuit.{chain, Uses, Edge, along, after_holder, before_next, before_first}
use Rattle.graph_core.specs.Slots.{SlotEdge, in_chain, from_before, to_after, EdgesBySlots}
use Rattle.graph_core.proofs.Chains.{placed}
use Rattle.graph_core.proofs.Needs.{slot_of}

by_slot : (f : FlatForm) → KeepsEnds f → (kind : EdgeKind) (a b : Vertex) → Edge f (Uses f) kind a b → SlotEdge f (Uses f) kind a b
by_slot f ok kind a b (along w j p q) = in_chain w j p q
by_slot f ok kind h u (after_holder {w = w} {i = i} n is) =
    let s = slot_of f ok u w i n in
    let r = s.holds h is in
    from_before n r.0 (sym s.is ∙ r.1) r.2
by_slot f ok kind u v (before_next {h = h} {w = w} {i = i} n is j p q) =
    let s = slot_of f ok u w i n in
    let r = s.holds h is in
    let same : j ≡ r.0 = sym (placed f ok w j h p).at ∙ (placed f ok w r.0 h r.2).at in
    to_after n (ap (λ (k : ℕ). slice_get (chain f w) k) (sym s.is ∙ r.1 ∙ ap suc (sym same)) ∙ q)
by_slot f ok kind u v (before_first {w = w} {i = i} n is p) =
    let s = slot_of f ok u w i n in
    to_after n (ap (λ (k : ℕ). slice_get (chain f w) k) (sym s.is ∙ s.empty is) ∙ p)

from_slot : (f : FlatForm) → KeepsEnds f → (kind : EdgeKind) (a b : Vertex) → SlotEdge f (Uses f) kind a b → Edge f (Uses f) kind a b
from_slot f ok kind a b (in_chain w j p q) = along w j p q
from_slot f ok kind h u (from_before {w = w} {i = i} n j e p) =
    let s = slot_of f ok u w i n in
    let r = s.behind j (s.is ∙ e) in
    subst (λ (x : Vertex). Edge f (Uses f) Control x u) (same_Some r.0 h (sym r.1 ∙ p)) r.2
from_slot f ok kind u v (to_after {w = w} {i = i} n p) =
    let s = slot_of f ok u w i n in
    s.ahead v (ap (λ (k : ℕ). slice_get (chain f w) k) s.is ∙ p)

pub edges_by_slots : EdgesBySlots
edges_by_slots f ok kind a b = (by_slot f ok kind a b, from_slot f ok kind a b)
