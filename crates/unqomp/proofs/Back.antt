-- The stages of the Reverse vertices.
use Rattle.std.proofs.Common.{◌≡◌, ℕ, ◌+◌, ◌-◌, ◌<◌, ◌≤◌, ◌⊎◌, ◌↔◌, Bool, true, false, cond, List, [], ◌∷◌, ◌++◌, map, reverse, length, drop, slice_set, Some, Contains, refl, sym, ap, ◌∙◌, subst, inl, inr, arith, append-nil, append_assoc, add-one, drop-cons}
use Rattle.std.proofs.lemmas.Bool.{cases_Bool, cases_lt, both_ways}
use Rattle.std.proofs.lemmas.List.{map-append, reverse-append}
use Rattle.std.proofs.Math.Seq.{drop-length}
use Rattle.flat_core.specs.declared.step.Step.{Step}
use Rattle.flat_core.specs.declared.step.WireId.{WireId}
use Rattle.flat_core.specs.declared.step.StepId.{StepId}
use Rattle.flat_core.specs.Form.{FlatForm}
use Rattle.flat_core.specs.Label.{changes, same_wire, step_id, step_at, no_step}
use Rattle.flat_core.specs.Ends.{dropped, undone, KeepsEnds}
use Rattle.graph_core.specs.declared.vertex.Vertex.{Vertex}
use Rattle.graph_core.specs.declared.vertex.Vertex.TheVariants.{Forward, Reverse, Free}
use Rattle.graph_core.specs.declared.graph.VertexId.{VertexId}
use Rattle.graph_core.specs.Arena.{Arena, IsArena}
use Rattle.graph_core.specs.Circuit.{steps_on_from}
use Rattle.graph_core.proofs.Chains.{undone_dropped}
use Rattle.unqomp.specs.Making.{vertex_id, target_of, forth, back, IsForth, IsBack, ids_on, IsForthStage, IsBackStage}
use Rattle.unqomp.specs.Linking.{linked}
use Rattle.unqomp.proofs.Stages.{stage_more, stage_same}
use Rattle.unqomp.proofs.Forth.{changes_target}

-- before any undoing there is none on a chain
pub back_nothing : (f : FlatForm) (x : WireId) → back f (length f.steps) x ≡ []
back_nothing f x =
    ap (λ (l : List Step). cond (dropped f x) (map Reverse (reverse (steps_on_from (length f.steps) l x))) []) (drop-length f.steps) ∙ go (dropped f x)
  where
    go : (b : Bool) → cond b (map Reverse (reverse [])) [] ≡ []
    go true = refl
    go false = refl

module _ (f : FlatForm) (n : ℕ) (there : n < length f.steps) where
  abbrev it : Step
  it = step_at f (step_id n)

  -- the steps on a wire from step n on
  steps_from : (x : WireId) → steps_on_from n (drop n f.steps) x ≡ cond (changes x it) (step_id n ∷ steps_on_from (n + 1) (drop (n + 1) f.steps) x) (steps_on_from (n + 1) (drop (n + 1) f.steps) x)
  steps_from x =
      ap (λ (l : List Step). steps_on_from n l x) (drop-cons f.steps n no_step there)
      ∙ ap (λ (k : ℕ). cond (changes x it) (step_id n ∷ steps_on_from k (drop k f.steps) x) (steps_on_from k (drop k f.steps) x)) (sym (add-one n))

  back_changed : (x : WireId) → dropped f x ≡ true → changes x it ≡ true → back f n x ≡ back f (n + 1) x ++ Reverse (step_id n) ∷ []
  back_changed x d c =
      let rest : List StepId = steps_on_from (n + 1) (drop (n + 1) f.steps) x in
      ap (λ (b : Bool). cond b (map Reverse (reverse (steps_on_from n (drop n f.steps) x))) []) d
      ∙ ap (λ (l : List StepId). map Reverse (reverse l)) (steps_from x ∙ ap (λ (b : Bool). cond b (step_id n ∷ rest) rest) c)
      ∙ ap (map Reverse) (reverse-append (step_id n ∷ []) rest)
      ∙ map-append Reverse (reverse rest) (step_id n ∷ [])
      ∙ ap (λ (b : Bool). cond b (map Reverse (reverse rest)) [] ++ Reverse (step_id n) ∷ []) (sym d)

  back_unchanged : (x : WireId) → changes x it ≡ false → back f n x ≡ back f (n + 1) x
  back_unchanged x c =
      let rest : List StepId = steps_on_from (n + 1) (drop (n + 1) f.steps) x in
      ap (λ (l : List StepId). cond (dropped f x) (map Reverse (reverse l)) []) (steps_from x ∙ ap (λ (b : Bool). cond b (step_id n ∷ rest) rest) c)

  back_kept : (x : WireId) → dropped f x ≡ false → back f n x ≡ back f (n + 1) x
  back_kept x d =
      ap (λ (b : Bool). cond b (map Reverse (reverse (steps_on_from n (drop n f.steps) x))) []) d
      ∙ ap (λ (b : Bool). cond b (map Reverse (reverse (steps_on_from (n + 1) (drop (n + 1) f.steps) x))) []) (sym d)

  pub back_with : (w : WireId) → undone f (step_id n) ≡ true → target_of it ≡ Some w → (front : List Vertex) (x : WireId) → cond (same_wire w x) ((front ++ back f (n + 1) x) ++ Reverse (step_id n) ∷ []) (front ++ back f (n + 1) x) ≡ front ++ back f n x
  back_with w u e front x = go (same_wire w x) refl
    where
      go : (b : Bool) → same_wire w x ≡ b → cond b ((front ++ back f (n + 1) x) ++ Reverse (step_id n) ∷ []) (front ++ back f (n + 1) x) ≡ front ++ back f n x
      go true s =
          let c : changes x it ≡ true = changes_target it w e x ∙ s in
          append_assoc front (back f (n + 1) x) (Reverse (step_id n) ∷ []) ∙ ap (λ (l : List Vertex). front ++ l) (sym (back_changed x (undone_dropped f (step_id n) x u c) c))
      go false s = ap (λ (l : List Vertex). front ++ l) (sym (back_unchanged x (changes_target it w e x ∙ s)))

  pub back_without : KeepsEnds f → undone f (step_id n) ≡ false → (x : WireId) → back f (n + 1) x ≡ back f n x
  back_without ok u x = elim (cases_Bool (changes x it)) [
    | inl c ↦ elim (cases_Bool (dropped f x)) [
      | inl d ↦ absurd (both_ways (undone f (step_id n)) u (ok.dropped_by_x (step_id n) x there c d))
      | inr d ↦ sym (back_kept x d)
    ]
    | inr c ↦ sym (back_unchanged x c)
  ]

  -- one Reverse vertex more
  pub back_one : undone f (step_id n) ≡ true → (v : Vertex) → (IsBack f (n + 1) v ⊎ (Reverse (step_id n) ≡ v)) ↔ IsBack f n v
  back_one u (Forward s) = (λ o. elim o [ inl l ↦ l | inr e ↦ cc ], λ l. inl l)
  back_one u (Reverse s) = (
    λ o. elim o [
      | inl l ↦ ((let a = l.0 in omega arith), l.1)
      | inr e ↦ let same : step_id n ≡ s = cc in subst (λ (t : StepId). (n ≤ t.number) × ((t.number < length f.steps) × (undone f t ≡ true))) same (omega arith, (there, u))
    ],
    λ l. elim (cases_lt n s.number) [
      | inl a ↦ inl (omega arith, l.1)
      | inr b ↦ let same : n ≡ s.number = (let a = l.0 in omega arith) in inr (ap (λ (k : ℕ). Reverse (step_id k)) same)
    ],
  )
  back_one u (Free w) = (λ o. elim o [ inl l ↦ l | inr e ↦ cc ], λ l. absurd l)

  pub back_none : undone f (step_id n) ≡ false → (v : Vertex) → IsBack f (n + 1) v ↔ IsBack f n v
  back_none u (Forward s) = (λ l. l, λ l. l)
  back_none u (Reverse s) = (
    λ l. ((let a = l.0 in omega arith), l.1),
    λ l. elim (cases_lt n s.number) [
      | inl a ↦ (omega arith, l.1)
      | inr b ↦ let same : n ≡ s.number = (let a = l.0 in omega arith) in absurd (both_ways (undone f (step_id n)) u (ap (λ (k : ℕ). undone f (step_id k)) same ∙ l.1.1))
    ],
  )
  back_none u (Free w) = (λ l. l, λ l. l)

-- the first of these stages is the last of the Forward vertices
pub back_start : (f : FlatForm) (g : Arena) (chains : List (List VertexId)) → IsForthStage f g chains (length f.steps) → IsBackStage f g chains (length f.steps)
back_start f g chains st =
    stage_same f g chains (length f.steps) (length f.steps) (length f.steps + (length f.steps - length f.steps)) (IsForth f (length f.steps)) (IsBack f (length f.steps)) (forth f (length f.steps)) (λ w. forth f (length f.steps) w ++ back f (length f.steps) w) (omega arith) same
    (λ x. sym (append-nil (forth f (length f.steps) x)) ∙ ap (λ (l : List Vertex). forth f (length f.steps) x ++ l) (sym (back_nothing f x))) st.stage
  where
    same : (v : Vertex) → IsForth f (length f.steps) v ↔ IsBack f (length f.steps) v
    same (Forward s) = (λ l. l, λ l. l)
    same (Reverse s) = (λ l. absurd l, λ l. (let a = l.0 in let b = l.1.0 in absurd (omega arith)))
    same (Free w) = (λ l. l, λ l. l)

module _ (f : FlatForm) (g : Arena) (chains : List (List VertexId)) (n : ℕ) (st : IsBackStage f g chains (n + 1)) (there : n < length f.steps) where
  fresh_one : ¬ IsBack f (n + 1) (Reverse (step_id n))
  fresh_one l = let a = l.0 in omega arith

  pub back_fresh : ¬ Contains g.vertices (Reverse (step_id n))
  back_fresh c = fresh_one ((st.vertices (Reverse (step_id n))).0 c)

  pub back_linked : IsArena g → (w : WireId) → w.number < length f.wires → undone f (step_id n) ≡ true → target_of (step_at f (step_id n)) ≡ Some w → IsBackStage f (linked g (ids_on chains w) (Reverse (step_id n))) (slice_set chains w.number (ids_on chains w ++ vertex_id (length g.vertices) ∷ [])) n
  back_linked ok w inside u e =
      stage_same f (linked g (ids_on chains w) (Reverse (step_id n))) (slice_set chains w.number (ids_on chains w ++ vertex_id (length g.vertices) ∷ [])) (length f.steps) (length f.steps + (length f.steps - (n + 1)) + 1) (length f.steps + (length f.steps - n)) (λ v. IsBack f (n + 1) v ⊎ (Reverse (step_id n) ≡ v)) (IsBack f n) (λ x. cond (same_wire w x) ((forth f (length f.steps) x ++ back f (n + 1) x) ++ Reverse (step_id n) ∷ []) (forth f (length f.steps) x ++ back f (n + 1) x)) (λ x. forth f (length f.steps) x ++ back f n x) (omega arith) (back_one f n there u) (λ x. back_with f n there w u e (forth f (length f.steps) x) x)
      (stage_more f g chains (length f.steps) (length f.steps + (length f.steps - (n + 1))) (IsBack f (n + 1)) (λ x. forth f (length f.steps) x ++ back f (n + 1) x) ok st (Reverse (step_id n)) fresh_one w inside)

  pub back_left : KeepsEnds f → undone f (step_id n) ≡ false → IsBackStage f g chains n
  back_left ok u =
      stage_same f g chains (length f.steps) (length f.steps + (length f.steps - (n + 1))) (length f.steps + (length f.steps - n)) (IsBack f (n + 1)) (IsBack f n) (λ x. forth f (length f.steps) x ++ back f (n + 1) x) (λ x. forth f (length f.steps) x ++ back f n x) (omega arith) (back_none f n there u) (λ x. ap (λ (l : List Vertex). forth f (length f.steps) x ++ l) (back_without f n there ok u x)) st
