-- One turn of the loop over the uses.
use Rattle.std.proofs.Common.{◌≡◌, ℕ, zero, suc, ◌+◌, ◌*◌, ◌<◌, ◌≤◌, Bool, true, cond, ◌&&◌, ltb, List, [], ◌∷◌, ◌++◌, length, take, get_or, slice_get, Option, Some, None, IfSome, IsSome, IsSomeAnd, Contains, refl, sym, ap, ◌∙◌, subst, inl, inr, arith, add-one}
use Rattle.std.proofs.lemmas.Bool.{cases_Bool, and_parts}
use Rattle.std.proofs.lemmas.List.{take_more}
use Rattle.std.proofs.lemmas.Option.{slice_get-get_or, slice_get_within, get_or_from_slice_get}
use Rattle.std.proofs.lemmas.List.Elements.{Contains-append_cases}
use Rattle.flat_core.specs.declared.step.Step.{Step}
use Rattle.flat_core.specs.declared.step.Step.TheVariants.{X, H, P, M}
use Rattle.flat_core.specs.declared.step.Lit.{Lit}
use Rattle.flat_core.specs.declared.step.WireId.{WireId}
use Rattle.flat_core.specs.declared.step.StepId.{StepId}
use Rattle.flat_core.specs.Form.{FlatForm}
use Rattle.flat_core.specs.Label.{step_id, used, control_wires, wire_of, step_at, top, label_before, EachNamed}
use Rattle.flat_core.specs.Ends.{dropped, freed}
use Rattle.flat_core.specs.Sound.{IsFlat}
use Rattle.flat_core.proofs.Kept.{keeps_ends}
use Rattle.graph_core.specs.declared.vertex.Vertex.{Vertex}
use Rattle.graph_core.specs.declared.graph.VertexId.{VertexId}
use Rattle.graph_core.specs.declared.graph.Arrow.{Arrow}
use Rattle.graph_core.specs.Arena.{Arena, IsArena, IsFreeFor, IsVertexOf, with_arrows}
use Rattle.graph_core.specs.Circuit.{chain, Uses, doing, undoing}
use Rattle.graph_core.specs.Slots.{slot, SlotEdge}
use Rattle.graph_core.proofs.Places.{at_right, contains_at}
use Rattle.graph_core.proofs.Chains.{length-chain}
use Rattle.graph_core.proofs.Needs.{label_before-le-top}
use Rattle.unqomp.specs.declared.uses.Use.{Use}
use Rattle.unqomp.specs.GraphOf.{HasEdges}
use Rattle.unqomp.specs.UseList.{uses_at, uses_before, InUses}
use Rattle.unqomp.specs.Making.{ids_on, slot_arrows, held_arrows, next_arrows, IsWhole, bare}
use Rattle.unqomp.proofs.Ids.{length-ids}
use Rattle.unqomp.proofs.Stages.{contains_nil, contains_one}
use Rattle.unqomp.proofs.UseEdges.{use_free, use_edges}
use Rattle.unqomp.proofs.UseLists.{NoneTwice, before_sound, before_twice, fresh_use, few_before}

-- the wires that a step uses are among those that it names
control_there : (o : Option Lit) (Holds : WireId → Type 0) (w : WireId) → Contains (control_wires o) w → IfSome (wire_of o) Holds → Holds w
control_there None Holds w c h = absurd (contains_nil w c)
control_there (Some a) Holds w c h = subst Holds (contains_one a.wire w c) h

pub used_there : (s : Step) (Holds : WireId → Type 0) (w : WireId) → Contains (used s) w → EachNamed Holds s → Holds w
used_there (X t a b) Holds w c h = elim (Contains-append_cases (control_wires a) (control_wires b) w c) [
  | inl l ↦ control_there a Holds w l h.1.0
  | inr r ↦ control_there b Holds w r h.1.1
]
used_there (H t a) Holds w c h = control_there a Holds w c h.1.0
used_there (P k a) Holds w c h = subst Holds (contains_one a.wire w c) h.1.0
used_there (M v n) Holds w c h = subst Holds (contains_one v w c) h.0

pub use_there : (f : FlatForm) → IsFlat f → (u : Vertex) (w : WireId) (i : ℕ) → Uses f u w i → w.number < length f.wires
use_there f ok u w i (doing {s = s} h c) = used_there (step_at f s) (λ x. x.number < length f.wires) w c (ok.in_range s h)
use_there f ok u w i (undoing {s = s} h n c) = used_there (step_at f s) (λ x. x.number < length f.wires) w c (ok.in_range s h)

-- a user stands on the chain, or at its end
low_slot : (f : FlatForm) (w : WireId) (i : ℕ) → i ≤ top f w → i ≤ length (chain f w)
low_slot f w i l = let long = length-chain f w in omega arith

pub slot_within : (f : FlatForm) (u : Vertex) (w : WireId) (i : ℕ) → Uses f u w i → slot f u w i ≤ length (chain f w)
slot_within f u w i (doing {s = s} h c) = low_slot f w (label_before f s w) (label_before-le-top f s w)
slot_within f u w i (undoing {s = s} h n c) =
    let l = label_before f s w in
    elim (cases_Bool (dropped f w && ltb l (top f w))) [
      | inl e ↦
          let d = (and_parts (dropped f w) (ltb l (top f w)) e).0 in
          let long : length (chain f w) ≡ top f w + (cond true (top f w) 0 + cond (freed f w) 1 0) = length-chain f w ∙ ap (λ (b : Bool). top f w + (cond b (top f w) 0 + cond (freed f w) 1 0)) d in
          rw e (omega arith)
      | inr e ↦ rw e (low_slot f w l (label_before-le-top f s w))
    ]

-- at most two edges a slot
few_next : (user : VertexId) (o : Option VertexId) → length (next_arrows user o) ≤ 2
few_next user None = omega arith
few_next user (Some next) = omega arith

few_held : (o : Option VertexId) (user : VertexId) (next : Option VertexId) → length (held_arrows o user next) ≤ 2
few_held None user next = omega arith
few_held (Some holder) user None = omega arith
few_held (Some holder) user (Some next) = omega arith

pub few_at_slot : (ids : List VertexId) (user : VertexId) (k : ℕ) → length (slot_arrows ids user k) ≤ 2
few_at_slot ids user zero = few_next user (slice_get ids 0)
few_at_slot ids user (suc j) = few_held (slice_get ids j) user (slice_get ids (suc j))

pub some_is : {A : Type 0} (o : Option A) (Holds : A → Type 0) (x : A) → IsSomeAnd o Holds → o ≡ Some x → Holds x
some_is o Holds x h e = let at : IsSomeAnd (Some x) Holds = subst (λ p. IsSomeAnd p Holds) e h in at

pub some_there : {A : Type 0} (o : Option A) (Holds : A → Type 0) → IsSomeAnd o Holds → IsSome o
some_there None Holds h = absurd h
some_there (Some x) Holds h = refl

-- a use of the first n steps, by its place
pub record IsNth (f : FlatForm) (n : ℕ) (uses : List Use) (k : ℕ) (x : Use) : Type 0 where
  pub within : n ≤ length f.steps
  pub all : uses ≡ uses_before f n
  pub at : slice_get uses k ≡ Some x

pub nth_of_step : (f : FlatForm) (s : StepId) → s.number < length f.steps → (mine : List Use) → mine ≡ uses_at f s → (i : ℕ) (d : Use) → i < length mine → IsNth f (suc s.number) (uses_before f s.number ++ mine) (length (uses_before f s.number) + i) (get_or mine i d)
nth_of_step f s there mine is i d below = record {
  within = omega arith;
  all = ap (λ (l : List Use). uses_before f s.number ++ l) is;
  at = at_right (uses_before f s.number) mine i (get_or mine i d) (slice_get-get_or mine i d below);
}

-- the uses of one step more
pub before_more : (f : FlatForm) (n : ℕ) (mine : List Use) → mine ≡ uses_at f (step_id n) → uses_before f n ++ mine ≡ uses_before f (n + 1)
before_more f n mine is = rw add-one (ap (λ (l : List Use). uses_before f n ++ l) is)

module _ (f : FlatForm) (sound : IsFlat f) (n : ℕ) (uses : List Use) (k : ℕ) (x : Use) (nth : IsNth f n uses k x) where
  below : k < length uses
  below = slice_get_within uses k x nth.at

  pub use_is : Uses f x.user x.wire x.label
  use_is = before_sound f n nth.within x (subst (λ (l : List Use). Contains l x) nth.all (contains_at uses k x nth.at))

  pub wire_there : x.wire.number < length f.wires
  wire_there = use_there f sound x.user x.wire x.label use_is

  pub few_uses : k < 4 * length f.steps
  few_uses = let few = few_before f n in let same = ap length nth.all in let b = below in let w = nth.within in omega arith

  module _ (g : Arena) (ok : IsArena g) (chains : List (List VertexId)) (whole : IsWhole f g.vertices chains) (so_far : HasEdges g (SlotEdge f (InUses (take k uses)))) (user : VertexId) (is_user : IsVertexOf g user x.user) where
    fresh : (j : ℕ) → ¬ Contains (take k uses) (record { user = x.user; wire = x.wire; label = j })
    fresh = fresh_use uses (subst (λ (l : List Use). NoneTwice l) (sym nth.all) (before_twice f sound n nth.within)) k x nth.at

    pub turn_free : (ids : List VertexId) (place : ℕ) → ids ≡ ids_on chains x.wire → place ≡ slot f x.user x.wire x.label → (e : Arrow) → Contains (slot_arrows ids user place) e → IsFreeFor g e
    turn_free ids place i p e c =
        let c' : Contains (slot_arrows (ids_on chains x.wire) user (slot f x.user x.wire x.label)) e = subst (λ (l : List VertexId). Contains (slot_arrows l user (slot f x.user x.wire x.label)) e) i (subst (λ (n : ℕ). Contains (slot_arrows ids user n) e) p c) in
        use_free f (keeps_ends f sound) g ok chains whole (take k uses) so_far x.user x.wire x.label wire_there fresh user is_user e c'

    pub turn_within : (ids : List VertexId) (place : ℕ) → ids ≡ ids_on chains x.wire → place ≡ slot f x.user x.wire x.label → place ≤ length ids
    turn_within ids place i p =
        let long = length-ids (bare g.vertices) (ids_on chains x.wire) (chain f x.wire) (whole.each x.wire wire_there) in
        let same = ap length i in
        let inside = slot_within f x.user x.wire x.label use_is in
        omega arith

    pub turn_edges : (ids : List VertexId) (place : ℕ) → ids ≡ ids_on chains x.wire → place ≡ slot f x.user x.wire x.label → HasEdges (with_arrows g (slot_arrows ids user place)) (SlotEdge f (InUses (take (k + 1) uses)))
    turn_edges ids place i p =
        let new = use_edges f (keeps_ends f sound) g ok chains whole (take k uses) so_far x.user x.wire x.label wire_there fresh user is_user in
        let more : take (k + 1) uses ≡ take k uses ++ x ∷ [] = take_more uses k x below ∙ ap (λ (y : Use). take k uses ++ y ∷ []) (get_or_from_slice_get uses k x x nth.at) in
        let one : HasEdges (with_arrows g (slot_arrows (ids_on chains x.wire) user (slot f x.user x.wire x.label))) (SlotEdge f (InUses (take (k + 1) uses))) = subst (λ (l : List Use). HasEdges (with_arrows g (slot_arrows (ids_on chains x.wire) user (slot f x.user x.wire x.label))) (SlotEdge f (InUses l))) (sym more) new in
        subst (λ (l : List VertexId). HasEdges (with_arrows g (slot_arrows l user place)) (SlotEdge f (InUses (take (k + 1) uses)))) (sym i)
        (subst (λ (n : ℕ). HasEdges (with_arrows g (slot_arrows (ids_on chains x.wire) user n)) (SlotEdge f (InUses (take (k + 1) uses)))) (sym p) one)
