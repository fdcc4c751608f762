-- The ids of users.
use Rattle.std.proofs.Common.{◌≡◌, ℕ, ◌+◌, ◌-◌, ◌<◌, true, List, length, get_or, slice_get, Option, Some, IsSomeAnd, sym, ap, ◌∙◌, subst, arith, refl, []}
use Rattle.std.proofs.lemmas.List.{get_or_read}
use Rattle.flat_core.specs.declared.step.Step.{Step}
use Rattle.flat_core.specs.declared.step.Step.TheVariants.{X, H, P, M}
use Rattle.flat_core.specs.declared.step.Lit.{Lit}
use Rattle.flat_core.specs.declared.step.WireId.{WireId}
use Rattle.flat_core.specs.declared.step.StepId.{StepId}
use Rattle.flat_core.specs.Form.{FlatForm}
use Rattle.flat_core.specs.Label.{changes, step_at, top, label_before}
use Rattle.flat_core.specs.Ends.{undone, undone_step}
use Rattle.flat_core.proofs.Labels.{same_wire-refl}
use Rattle.graph_core.specs.declared.vertex.Vertex.TheVariants.{Forward, Reverse, Free}
use Rattle.graph_core.specs.declared.graph.VertexId.{VertexId}
use Rattle.graph_core.specs.Arena.{IsVertexOf}
use Rattle.graph_core.specs.Circuit.{Uses, doing, undoing}
use Rattle.graph_core.proofs.Chains.{on_at, from_on, reverse_at}
use Rattle.unqomp.specs.Making.{vertex_id, target_of, ids_on, IsIdOf, bare}
use Rattle.unqomp.proofs.Ids.{id_at}

-- what is changed is the target
pub target_changes : (s : Step) (w : WireId) → target_of s ≡ Some w → changes w s ≡ true
target_changes (X t a b) w e = let same : t ≡ w = cc in subst (λ (x : WireId). changes x (X t a b) ≡ true) same (same_wire-refl t)
target_changes (H t a) w e = let same : t ≡ w = cc in subst (λ (x : WireId). changes x (H t a) ≡ true) same (same_wire-refl t)
target_changes (P k a) w e = cc
target_changes (M v n) w e = cc

some_of : {A : Type 0} (Holds : A → Type 0) (o : Option A) (x : A) → o ≡ Some x → Holds x → IsSomeAnd o Holds
some_of Holds o x e h = subst (λ p. IsSomeAnd p Holds) (sym e) h

module _ (f : FlatForm) (s : StepId) (there : s.number < length f.steps) (w : WireId) (target : target_of (step_at f s) ≡ Some w) where
  -- a step that changes a wire does so below its top
  pub below_top : label_before f s w < top f w
  below_top = (from_on f w (label_before f s w) s (on_at f s w there (target_changes (step_at f s) w target))).below_top

  pub reverse_id : undone f s ≡ true → w.number < length f.wires → (chains : List (List VertexId)) (ids : List VertexId) (id : Option VertexId) → ids ≡ get_or chains w.number ids → id ≡ slice_get ids (top f w + (top f w - 1 - label_before f s w)) → IsIdOf f chains id (Reverse s)
  reverse_id u inside chains ids id read is vertices whole =
      let as_many = whole.as_many in
      let r = id_at (bare vertices) (ids_on chains w) _ (whole.each w inside) (top f w + (top f w - 1 - label_before f s w)) (Reverse s) (reverse_at f w s there u (target_changes (step_at f s) w target)) in
      let same : ids ≡ ids_on chains w = get_or_read chains w.number ids (omega arith) read [] in
      some_of (λ i. IsVertexOf (bare vertices) i (Reverse s)) id r.0 (is ∙ ap (λ (l : List VertexId). slice_get l (top f w + (top f w - 1 - label_before f s w))) same ∙ r.1) r.2

pub forward_id : (f : FlatForm) (chains : List (List VertexId)) (s : StepId) → s.number < length f.steps → IsIdOf f chains (Some (vertex_id s.number)) (Forward s)
forward_id f chains s h vertices whole = whole.numbered s h

-- what undoes a step that is undone is no other than an X
pub undone_is_x : (f : FlatForm) (s : StepId) → undone f s ≡ true → ((t : WireId) (a b : Option Lit) → step_at f s ≡ X t a b → ⊥) → ⊥
undone_is_x f s u other = go (step_at f s) refl u
  where
    go : (step : Step) → step_at f s ≡ step → undone_step f step ≡ true → ⊥
    go (X t a b) e u = other t a b e
    go (H t a) e u = cc
    go (P k a) e u = cc
    go (M v n) e u = cc

pub user_there : (f : FlatForm) (s : StepId) (w : WireId) (i : ℕ) → Uses f (Forward s) w i → s.number < length f.steps
user_there f s w i (doing h c) = h

pub reverse_there : (f : FlatForm) (s : StepId) (w : WireId) (i : ℕ) → Uses f (Reverse s) w i → (s.number < length f.steps) × (undone f s ≡ true)
reverse_there f s w i (undoing h u c) = (h, u)

pub free_uses : (f : FlatForm) (x w : WireId) (i : ℕ) → Uses f (Free x) w i → ⊥
free_uses f x w i n = elim n [ ]
