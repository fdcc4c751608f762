-- The stages of the Forward vertices.
use Rattle.std.proofs.Common.{◌≡◌, ℕ, suc, ◌+◌, ◌<◌, ◌⊎◌, ◌↔◌, Bool, true, false, cond, List, [], ◌∷◌, ◌++◌, map, length, take, slice_get, slice_set, Some, None, Contains, refl, sym, ap, ◌∙◌, inl, inr, arith, length-append, append-nil, add-zero, add-suc, suc-add, zero-add, length-take-le}
use Rattle.std.proofs.lemmas.Bool.{cases_lt}
use Rattle.std.proofs.lemmas.List.{map-append, take_more}
use Rattle.flat_core.specs.declared.step.Step.{Step}
use Rattle.flat_core.specs.declared.step.Step.TheVariants.{X, H, P, M}
use Rattle.flat_core.specs.declared.step.WireId.{WireId}
use Rattle.flat_core.specs.declared.step.StepId.{StepId}
use Rattle.flat_core.specs.Form.{FlatForm}
use Rattle.flat_core.specs.Label.{changes, same_wire, step_id, step_at, no_step}
use Rattle.graph_core.specs.declared.vertex.Vertex.{Vertex}
use Rattle.graph_core.specs.declared.vertex.Vertex.TheVariants.{Forward, Reverse, Free}
use Rattle.graph_core.specs.declared.graph.VertexId.{VertexId}
use Rattle.graph_core.specs.Arena.{Arena, IsArena, IsVertexOf, with_vertex}
use Rattle.graph_core.specs.Circuit.{steps_on_from}
use Rattle.unqomp.specs.Making.{vertex_id, target_of, forth, IsForth, ids_on, IsForthStage}
use Rattle.unqomp.specs.Linking.{linked}
use Rattle.unqomp.proofs.Stages.{stage_more, stage_lone, stage_same, number, vertex_kept, vertex_new}

-- a step changes its target alone
pub changes_target : (s : Step) (w : WireId) → target_of s ≡ Some w → (x : WireId) → changes x s ≡ same_wire w x
changes_target (X t a b) w e x = let same : t ≡ w = cc in ap (λ (y : WireId). same_wire y x) same
changes_target (H t a) w e x = let same : t ≡ w = cc in ap (λ (y : WireId). same_wire y x) same
changes_target (P k a) w e x = cc
changes_target (M v n) w e x = cc

pub changes_none : (s : Step) → target_of s ≡ None → (x : WireId) → changes x s ≡ false
changes_none (X t a b) e x = cc
changes_none (H t a) e x = cc
changes_none (P k a) e x = refl
changes_none (M v n) e x = refl

-- the steps on a wire, with one step more
steps_on_from-push : (m : ℕ) (steps : List Step) (s : Step) (w : WireId) → steps_on_from m (steps ++ s ∷ []) w ≡ steps_on_from m steps w ++ cond (changes w s) (step_id (m + length steps) ∷ []) []
steps_on_from-push m [] s w = ap (λ (n : ℕ). cond (changes w s) (step_id n ∷ []) []) (sym (add-zero m))
steps_on_from-push m (a ∷ steps) s w =
    let next : steps_on_from (suc m) (steps ++ s ∷ []) w ≡ steps_on_from (suc m) steps w ++ cond (changes w s) (step_id (m + suc (length steps)) ∷ []) [] =
    steps_on_from-push (suc m) steps s w ∙ ap (λ (n : ℕ). steps_on_from (suc m) steps w ++ cond (changes w s) (step_id n ∷ []) []) (suc-add m (length steps) ∙ sym (add-suc m (length steps))) in
    go (changes w a) (steps_on_from (suc m) (steps ++ s ∷ []) w) (steps_on_from (suc m) steps w) (cond (changes w s) (step_id (m + suc (length steps)) ∷ []) []) next
  where
    go : (b : Bool) (all front back : List StepId) → all ≡ front ++ back → cond b (step_id m ∷ all) all ≡ cond b (step_id m ∷ front) front ++ back
    go true all front back e = ap (λ (l : List StepId). step_id m ∷ l) e
    go false all front back e = e

module _ (f : FlatForm) (n : ℕ) (there : n < length f.steps) where
  abbrev it : Step
  it = step_at f (step_id n)

  forth-more : (x : WireId) → forth f (n + 1) x ≡ forth f n x ++ map Forward (cond (changes x it) (step_id n ∷ []) [])
  forth-more x =
      let short : length (take n f.steps) ≡ n = length-take-le n f.steps (omega arith) in
      ap (λ (l : List Step). map Forward (steps_on_from 0 l x)) (take_more f.steps n no_step there)
      ∙ ap (map Forward) (steps_on_from-push 0 (take n f.steps) it x ∙ ap (λ (k : ℕ). steps_on_from 0 (take n f.steps) x ++ cond (changes x it) (step_id k ∷ []) []) (zero-add (length (take n f.steps)) ∙ short))
      ∙ map-append Forward (steps_on_from 0 (take n f.steps) x) (cond (changes x it) (step_id n ∷ []) [])

  pub forth_with : (w : WireId) → target_of it ≡ Some w → (x : WireId) → cond (same_wire w x) (forth f n x ++ Forward (step_id n) ∷ []) (forth f n x) ≡ forth f (n + 1) x
  forth_with w e x =
      go (same_wire w x)
      ∙ ap (λ (b : Bool). forth f n x ++ map Forward (cond b (step_id n ∷ []) [])) (sym (changes_target it w e x))
      ∙ sym (forth-more x)
    where
      go : (b : Bool) → cond b (forth f n x ++ Forward (step_id n) ∷ []) (forth f n x) ≡ forth f n x ++ map Forward (cond b (step_id n ∷ []) [])
      go true = refl
      go false = sym (append-nil (forth f n x))

  pub forth_without : target_of it ≡ None → (x : WireId) → forth f n x ≡ forth f (n + 1) x
  forth_without e x =
      sym (append-nil (forth f n x))
      ∙ ap (λ (b : Bool). forth f n x ++ map Forward (cond b (step_id n ∷ []) [])) (sym (changes_none it e x))
      ∙ sym (forth-more x)

-- one Forward vertex more
pub forth_one : (f : FlatForm) (n : ℕ) (v : Vertex) → (IsForth f n v ⊎ (Forward (step_id n) ≡ v)) ↔ IsForth f (n + 1) v
forth_one f n (Forward s) = (
  λ o. elim o [
    | inl l ↦ omega arith
    | inr e ↦ let same : n ≡ s.number = number_of s e in omega arith
  ],
  λ l. elim (cases_lt s.number n) [
    | inl a ↦ inl a
    | inr b ↦ let same : n ≡ s.number = omega arith in inr (ap (λ (k : ℕ). Forward (step_id k)) same)
  ],
)
  where
    number_of : (s : StepId) → Forward (step_id n) ≡ Forward s → n ≡ s.number
    number_of s e = let same : step_id n ≡ s = cc in ap (λ (x : StepId). x.number) same
forth_one f n (Reverse s) = (λ o. elim o [ inl l ↦ l | inr e ↦ cc ], λ l. absurd l)
forth_one f n (Free w) = (λ o. elim o [ inl l ↦ l | inr e ↦ cc ], λ l. absurd l)

module _ (f : FlatForm) (g : Arena) (chains : List (List VertexId)) (n : ℕ) (ok : IsArena g) (st : IsForthStage f g chains n) (there : n < length f.steps) where
  fresh_one : ¬ IsForth f n (Forward (step_id n))
  fresh_one l = omega arith

  pub forth_fresh : ¬ Contains g.vertices (Forward (step_id n))
  forth_fresh c = fresh_one ((st.stage.vertices (Forward (step_id n))).0 c)

  -- the new vertex has the next id
  number_more : (h : Arena) → ((id : VertexId) (v : Vertex) → IsVertexOf g id v → IsVertexOf h id v) → IsVertexOf h (vertex_id (length g.vertices)) (Forward (step_id n)) → (s : StepId) → s.number < n + 1 → IsVertexOf h (vertex_id s.number) (Forward s)
  number_more h keep new s l = elim (cases_lt s.number n) [
    | inl a ↦ keep (vertex_id s.number) (Forward s) (st.stage.numbered s a)
    | inr b ↦
        let same : length g.vertices ≡ s.number = (let e = st.exactly in omega arith) in
        let id : n ≡ s.number = omega arith in
        ap (λ (k : ℕ). slice_get h.vertices k) (sym same) ∙ new ∙ ap (λ (k : ℕ). Some (Forward (step_id k))) id
  ]

  pub forth_linked : (w : WireId) → w.number < length f.wires → target_of (step_at f (step_id n)) ≡ Some w → IsForthStage f (linked g (ids_on chains w) (Forward (step_id n))) (slice_set chains w.number (ids_on chains w ++ vertex_id (length g.vertices) ∷ [])) (n + 1)
  forth_linked w inside e =
      let longer = length-append g.vertices (Forward (step_id n) ∷ []) in
      let so = st.exactly in
      record {
        stage = number (n + 1) (linked g (ids_on chains w) (Forward (step_id n))) (slice_set chains w.number (ids_on chains w ++ vertex_id (length g.vertices) ∷ []))
            (stage_same f (linked g (ids_on chains w) (Forward (step_id n))) (slice_set chains w.number (ids_on chains w ++ vertex_id (length g.vertices) ∷ [])) n (n + 1) (n + 1) (λ x. IsForth f n x ⊎ (Forward (step_id n) ≡ x)) (IsForth f (n + 1)) (λ x. cond (same_wire w x) (forth f n x ++ Forward (step_id n) ∷ []) (forth f n x)) (forth f (n + 1)) (omega arith) (forth_one f n) (forth_with f n there w e)
            (stage_more f g chains n n (IsForth f n) (forth f n) ok st.stage (Forward (step_id n)) fresh_one w inside))
            (number_more (linked g (ids_on chains w) (Forward (step_id n))) (vertex_kept g (Forward (step_id n))) (vertex_new g (Forward (step_id n))));
        exactly = omega arith;
      }

  pub forth_lone : target_of (step_at f (step_id n)) ≡ None → IsForthStage f (with_vertex g (Forward (step_id n))) chains (n + 1)
  forth_lone e =
      let longer = length-append g.vertices (Forward (step_id n) ∷ []) in
      let so = st.exactly in
      record {
        stage = number (n + 1) (with_vertex g (Forward (step_id n))) chains
            (stage_same f (with_vertex g (Forward (step_id n))) chains n (n + 1) (n + 1) (λ x. IsForth f n x ⊎ (Forward (step_id n) ≡ x)) (IsForth f (n + 1)) (forth f n) (forth f (n + 1)) (omega arith) (forth_one f n) (forth_without f n there e)
            (stage_lone f g chains n n (IsForth f n) (forth f n) ok st.stage (Forward (step_id n)) fresh_one))
            (number_more (with_vertex g (Forward (step_id n))) (vertex_kept g (Forward (step_id n))) (vertex_new g (Forward (step_id n))));
        exactly = omega arith;
      }
