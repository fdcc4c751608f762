-- The edges of a level's graph are edges of the circuit graph, its own ones and those of the steps done again.
use Rattle.std.proofs.Common.{◌≡◌, ℕ, suc, true, ◌&&◌, eqb, List, [], ◌∷◌, Some, None, Contains, refl, sym, ap, ◌∙◌, subst, inl, inr}
use Rattle.std.proofs.lemmas.Bool.{and_parts}
use Rattle.std.proofs.lemmas.List.Elements.{Contains-append_cases}
use Rattle.flat_core.specs.declared.step.Step.{Step}
use Rattle.flat_core.specs.declared.step.Step.TheVariants.{X, H, P, M}
use Rattle.flat_core.specs.declared.step.WireId.{WireId}
use Rattle.flat_core.specs.declared.step.StepId.{StepId}
use Rattle.flat_core.specs.Form.{FlatForm}
use Rattle.flat_core.specs.Label.{step_id, used, step_at, label_before}
use Rattle.flat_core.specs.Ends.{dropped, KeepsEnds}
use Rattle.graph_core.specs.declared.vertex.Vertex.{Vertex}
use Rattle.graph_core.specs.declared.vertex.Vertex.TheVariants.{Forward, Reverse, Free}
use Rattle.graph_core.specs.declared.vertex.EdgeKind.{EdgeKind}
use Rattle.graph_core.specs.declared.vertex.EdgeKind.TheVariants.{Control, Availability}
use Rattle.graph_core.specs.Circuit.{chain, holder, Uses, doing, undoing, Edge, along, after_holder, before_next, before_first}
use Rattle.graph_core.proofs.Places.{contains_at}
use Rattle.graph_core.proofs.Needs.{slot_of}
use Rattle.topo_order.proofs.Orders.{contains_nil}
use Rattle.reqomp.specs.Simple.{used_at_top_from, simple_at, simple_from, marked_at}
use Rattle.reqomp.specs.Level.{Passes, RestsOn, directly, further, Needs, itself, below, IsKept}
use Rattle.reqomp.specs.Contracted.{IsAgain, alike, TakenEdge, own_edge, before_again, after_again, ContractedEdges}
use Rattle.reqomp.proofs.AtTop.{in_cond, marked_simple}

-- a marked wire is a Dropped one
simple_drops : (f : FlatForm) (n : ℕ) (s : Step) (w : WireId) → Contains (simple_at f n s) w → dropped f w ≡ true
simple_drops f n (X t a b) w c =
    let r = in_cond (eqb (label_before f (step_id n) t) 0 && (dropped f t && used_at_top_from f t 0 f.steps)) t w c in
    let d = and_parts (eqb (label_before f (step_id n) t) 0) (dropped f t && used_at_top_from f t 0 f.steps) r.0 in
    subst (λ (x : WireId). dropped f x ≡ true) r.1 (and_parts (dropped f t) (used_at_top_from f t 0 f.steps) d.1).0
simple_drops f n (H t a) w c = absurd (contains_nil w c)
simple_drops f n (P k a) w c = absurd (contains_nil w c)
simple_drops f n (M x k) w c = absurd (contains_nil w c)

simple_dropped : (f : FlatForm) (n : ℕ) (steps : List Step) (w : WireId) → Contains (simple_from f n steps) w → dropped f w ≡ true
simple_dropped f n [] w c = absurd (contains_nil w c)
simple_dropped f n (s ∷ rest) w c = elim (Contains-append_cases (simple_at f n s) (simple_from f (suc n) rest) w c) [
  | inl a ↦ simple_drops f n s w a
  | inr b ↦ simple_dropped f (suc n) rest w b
]

pub marked_dropped : (f : FlatForm) (k : ℕ) (w : WireId) → Contains (marked_at f k) w → dropped f w ≡ true
marked_dropped f k w c = simple_dropped f 0 f.steps w (marked_simple f k w c)

module _ (f : FlatForm) (ok : KeepsEnds f) (marked : List WireId) where
  -- what a vertex rests on is marked, and nothing is done again for a freeing
  pub rests_marked : (v : Vertex) (w : WireId) → RestsOn f marked v w → Contains marked w
  rests_marked v w (directly u c) = c
  rests_marked v w (further r p c) = c

  free_uses : (v x : Vertex) (y w : WireId) (i : ℕ) → Uses f v w i → v ≡ Free y → ⊥
  free_uses v x y w i (doing l c) e = cc
  free_uses v x y w i (undoing l d c) e = cc

  pub free_rests : (v : Vertex) (y w : WireId) → RestsOn f marked v w → v ≡ Free y → ⊥
  free_rests v y w (directly {i = i} u c) e = free_uses v v y w i u e
  free_rests v y w (further {p = p} r q c) e = free_rests v y p r e

  -- what a step uses, done or undone
  used_forward : (v : Vertex) (t : StepId) (w : WireId) (i : ℕ) → Uses f v w i → v ≡ Forward t → Contains (used (step_at f t)) w × (label_before f t w ≡ i)
  used_forward v t w i (doing {s = s} l c) e = let same : s ≡ t = cc in (subst (λ (x : StepId). Contains (used (step_at f x)) w) same c, ap (λ (x : StepId). label_before f x w) (sym same))
  used_forward v t w i (undoing l d c) e = cc

  used_reverse : (v : Vertex) (t : StepId) (w : WireId) (i : ℕ) → Uses f v w i → v ≡ Reverse t → Contains (used (step_at f t)) w × (label_before f t w ≡ i)
  used_reverse v t w i (doing l c) e = cc
  used_reverse v t w i (undoing {s = s} l d c) e = let same : s ≡ t = cc in (subst (λ (x : StepId). Contains (used (step_at f x)) w) same c, ap (λ (x : StepId). label_before f x w) (sym same))

  -- a use of a step that is done again is a need of the vertex
  copied_need : (v : Vertex) (t : StepId) (w : WireId) (i : ℕ) → IsAgain f marked v t → Uses f (alike v t) w i → ¬ Contains marked w → Needs f marked v w i
  copied_need (Forward s) t w i a u n =
      let r = used_forward (Forward t) t w i u refl in
      subst (Needs f marked (Forward s) w) r.1 (below a.rests (record { step = a.step; changing = a.changing; uses = r.0 }) n)
  copied_need (Reverse s) t w i a u n =
      let r = used_reverse (Reverse t) t w i u refl in
      subst (Needs f marked (Reverse s) w) r.1 (below a.rests (record { step = a.step; changing = a.changing; uses = r.0 }) n)
  copied_need (Free y) t w i a u n = absurd (free_uses (Free y) (Free y) y w i u refl)

  holder_alike : (v : Vertex) (t : StepId) (w : WireId) (i : ℕ) → holder f (alike v t) w i ≡ holder f v w i
  holder_alike (Forward s) t w i = refl
  holder_alike (Reverse s) t w i = refl
  holder_alike (Free y) t w i = refl

  own_kept : (kind : EdgeKind) (u v : Vertex) → IsKept f marked u → IsKept f marked v → Edge f (Uses f) kind u v → Edge f (Needs f marked) kind u v
  own_kept kind u v from to (along w j p q) = along w j p q
  own_kept kind h u from to (after_holder {w = w} {i = i} n is) =
      let r = (slot_of f ok u w i n).holds h is in
      after_holder (itself n (λ m. from.unmarked w m (contains_at (chain f w) r.0 h r.2))) is
  own_kept kind u v from to (before_next {w = w} n is j p q) = before_next (itself n (λ m. to.unmarked w m (contains_at (chain f w) (suc j) v q))) is j p q
  own_kept kind u v from to (before_first {w = w} n is p) = before_first (itself n (λ m. to.unmarked w m (contains_at (chain f w) 0 v p))) is p

  before_kept : (kind : EdgeKind) (u x v : Vertex) (t : StepId) → IsKept f marked u → IsAgain f marked v t → Edge f (Uses f) kind u x → kind ≡ Control → x ≡ alike v t → Edge f (Needs f marked) Control u v
  before_kept kind u x v t from a (along w j p q) k e = cc
  before_kept kind h x v t from a (after_holder {w = w} {i = i} n is) k e =
      let m : Uses f (alike v t) w i = subst (λ (y : Vertex). Uses f y w i) e n in
      let held : holder f (alike v t) w i ≡ Some h = subst (λ (y : Vertex). holder f y w i ≡ Some h) e is in
      let r = (slot_of f ok (alike v t) w i m).holds h held in
      after_holder (copied_need v t w i a m (λ c. from.unmarked w c (contains_at (chain f w) r.0 h r.2))) (sym (holder_alike v t w i) ∙ held)
  before_kept kind u x v t from a (before_next n is j p q) k e = cc
  before_kept kind u x v t from a (before_first n is p) k e = cc

  after_kept : (kind : EdgeKind) (x v u : Vertex) (t : StepId) → IsKept f marked v → IsAgain f marked u t → Edge f (Uses f) kind x v → kind ≡ Availability → x ≡ alike u t → Edge f (Needs f marked) Availability u v
  after_kept kind x v u t to a (along w j p q) k e = cc
  after_kept kind x v u t to a (after_holder n is) k e = cc
  after_kept kind x v u t to a (before_next {h = h} {w = w} {i = i} n is j p q) k e =
      let m : Uses f (alike u t) w i = subst (λ (y : Vertex). Uses f y w i) e n in
      let held : holder f (alike u t) w i ≡ Some h = subst (λ (y : Vertex). holder f y w i ≡ Some h) e is in
      before_next (copied_need u t w i a m (λ c. to.unmarked w c (contains_at (chain f w) (suc j) v q))) (sym (holder_alike u t w i) ∙ held) j p q
  after_kept kind x v u t to a (before_first {w = w} {i = i} n is p) k e =
      let m : Uses f (alike u t) w i = subst (λ (y : Vertex). Uses f y w i) e n in
      before_first (copied_need u t w i a m (λ c. to.unmarked w c (contains_at (chain f w) 0 v p))) (sym (holder_alike u t w i) ∙ subst (λ (y : Vertex). holder f y w i ≡ None) e is) p

  taken_is_kept : (kind : EdgeKind) (u v : Vertex) → IsKept f marked u → IsKept f marked v → TakenEdge f marked kind u v → Edge f (Needs f marked) kind u v
  taken_is_kept kind u v from to (own_edge e) = own_kept kind u v from to e
  taken_is_kept kind u v from to (before_again {t = t} a e) = before_kept Control u (alike v t) v t from a e refl refl
  taken_is_kept kind u v from to (after_again {t = t} a e) = after_kept Availability (alike u t) v u t to a e refl refl

  module _ (drops : (w : WireId) → Contains marked w → dropped f w ≡ true) where
    use_alike : (v : Vertex) (t : StepId) (p w : WireId) → RestsOn f marked v p → Passes f t p w → Uses f (alike v t) w (label_before f t w)
    use_alike (Forward s) t p w r q = doing q.step q.uses
    use_alike (Reverse s) t p w r q = undoing q.step (ok.dropped_by_x t p q.step q.changing (drops p (rests_marked (Reverse s) p r))) q.uses
    use_alike (Free y) t p w r q = absurd (free_rests (Free y) y p r refl)

    kept_is_taken : (kind : EdgeKind) (u v : Vertex) → Edge f (Needs f marked) kind u v → TakenEdge f marked kind u v
    kept_is_taken kind u v (along w j p q) = own_edge (along w j p q)
    kept_is_taken kind h u (after_holder (itself n m) is) = own_edge (after_holder n is)
    kept_is_taken kind h u (after_holder (below {p = p} {w = w} {s = t} r q m) is) =
        before_again (record { wire = p; rests = r; step = q.step; changing = q.changing }) (after_holder (use_alike u t p w r q) (holder_alike u t w (label_before f t w) ∙ is))
    kept_is_taken kind u v (before_next (itself n m) is j a b) = own_edge (before_next n is j a b)
    kept_is_taken kind u v (before_next (below {p = p} {w = w} {s = t} r q m) is j a b) =
        after_again (record { wire = p; rests = r; step = q.step; changing = q.changing }) (before_next (use_alike u t p w r q) (holder_alike u t w (label_before f t w) ∙ is) j a b)
    kept_is_taken kind u v (before_first (itself n m) is a) = own_edge (before_first n is a)
    kept_is_taken kind u v (before_first (below {p = p} {w = w} {s = t} r q m) is a) =
        after_again (record { wire = p; rests = r; step = q.step; changing = q.changing }) (before_first (use_alike u t p w r q) (holder_alike u t w (label_before f t w) ∙ is) a)

pub contracted_edges : ContractedEdges
contracted_edges f k ok kind u v from to = (
  (λ e. kept_is_taken f ok (marked_at f k) (marked_dropped f k) kind u v e.edge),
  (λ e. record { from = from; to = to; edge = taken_is_kept f ok (marked_at f k) kind u v from to e }),
)
