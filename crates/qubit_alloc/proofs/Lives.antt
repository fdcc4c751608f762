-- Which wires a move makes live.
use Rattle.std.proofs.Common.{◌≡◌, ℕ, suc, pred, ◌<◌, ◌⊎◌, inl, inr, Bool, true, false, cond, not, nat_lt, ◌&&◌, ◌||◌, Some, ◌∷◌, [], Contains, refl, sym, ◌∙◌, ap, ap₂, subst, arith}
use Rattle.std.proofs.lemmas.Bool.{cases_Bool, both_ways, and_parts, and_from, or_cases, or_left, or_right, not-true, not_from_false, ltb-true, lt-ltb}
use Rattle.flat_core.specs.declared.step.Step.{Step}
use Rattle.flat_core.specs.declared.step.Step.TheVariants.{X, H, P, M}
use Rattle.flat_core.specs.declared.step.WireId.{WireId}
use Rattle.flat_core.specs.declared.step.StepId.{StepId}
use Rattle.flat_core.specs.Form.{FlatForm}
use Rattle.flat_core.specs.Label.{changes, used, main_wire, step_at, is_input, label_before}
use Rattle.flat_core.specs.Ends.{measures, undone_step}
use Rattle.flat_core.proofs.Labels.{main_of_changed, main_of_measured, same_wire-refl}
use Rattle.move_plan.specs.declared.moves.Move.{Move}
use Rattle.move_plan.specs.declared.moves.Move.TheVariants.{Up, Down, Do, Free}
use Rattle.move_plan.specs.Progress.{Progress, Stands, moved}
use Rattle.move_plan.specs.Live.{live}
use Rattle.qubit_alloc.specs.Place.{main_of}

-- why a wire is live
pub record IsLive (f : FlatForm) (p : Progress) (w : WireId) : Type 0 where
  pub kept : p.gone w ≡ false
  pub why : (is_input f w ≡ true) ⊎ ((0 < p.label w) ⊎ (p.measured w ≡ true))

pub live_to : (f : FlatForm) (p : Progress) (w : WireId) → live f p w ≡ true → IsLive f p w
live_to f p w h =
    let a = and_parts (not (p.gone w)) (is_input f w || nat_lt 0 (p.label w) || p.measured w) h in
    record {
      kept = not-true (p.gone w) a.0;
      why = elim (or_cases (is_input f w || nat_lt 0 (p.label w)) (p.measured w) a.1) [
        | inl b ↦ elim (or_cases (is_input f w) (nat_lt 0 (p.label w)) b) [
          | inl i ↦ inl i
          | inr l ↦ inr (inl (ltb-true 0 (p.label w) l))
        ]
        | inr m ↦ inr (inr m)
      ];
    }

pub live_from : (f : FlatForm) (p : Progress) (w : WireId) → IsLive f p w → live f p w ≡ true
live_from f p w h = and_from (not (p.gone w)) (is_input f w || nat_lt 0 (p.label w) || p.measured w) (not_from_false (p.gone w) h.kept) (by h.why)
  where
    by : (is_input f w ≡ true) ⊎ ((0 < p.label w) ⊎ (p.measured w ≡ true)) → (is_input f w || nat_lt 0 (p.label w) || p.measured w) ≡ true
    by (inl i) = or_left (is_input f w || nat_lt 0 (p.label w)) (p.measured w) (or_left (is_input f w) (nat_lt 0 (p.label w)) i)
    by (inr (inl l)) = or_left (is_input f w || nat_lt 0 (p.label w)) (p.measured w) (or_right (is_input f w) (nat_lt 0 (p.label w)) (lt-ltb 0 (p.label w) l))
    by (inr (inr m)) = or_right (is_input f w || nat_lt 0 (p.label w)) (p.measured w) m

-- the main wire of a step is changed or measured by it
pub main_how : (s : Step) (w : WireId) → main_wire s ≡ Some w → (changes w s ≡ true) ⊎ ((measures w s ≡ true) × Contains (used s) w)
main_how (X t a b) w h = let e : t ≡ w = cc in inl (ap (λ (v : WireId). changes v (X t a b)) (sym e) ∙ same_wire-refl t)
main_how (H t a) w h = let e : t ≡ w = cc in inl (ap (λ (v : WireId). changes v (H t a)) (sym e) ∙ same_wire-refl t)
main_how (P k a) w h = absurd (cc)
main_how (M v n) w h =
    let e : v ≡ w = cc in
    let it : Contains (v ∷ []) v = (0, omega arith, refl) in
    inr (ap (λ (x : WireId). measures x (M v n)) (sym e) ∙ same_wire-refl v, subst (λ (x : WireId). Contains (v ∷ []) x) e it)

-- a step that is undone again measures nothing
undone_measures : (f : FlatForm) (s : Step) (w : WireId) → undone_step f s ≡ true → measures w s ≡ false
undone_measures f (X t a b) w u = refl
undone_measures f (H t a) w u = refl
undone_measures f (P k a) w u = refl
undone_measures f (M v n) w u = absurd (cc)

undone_changes : (f : FlatForm) (s : Step) (w : WireId) → undone_step f s ≡ true → main_wire s ≡ Some w → changes w s ≡ true
undone_changes f s w u e = elim (main_how s w e) [
  | inl c ↦ c
  | inr m ↦ absurd (both_ways (measures w s) (undone_measures f s w u) m.0)
]

module _ (f : FlatForm) (p : Progress) where
  raised : (s : StepId) (w : WireId) → changes w (step_at f s) ≡ true → 0 < cond (changes w (step_at f s)) (suc (p.label w)) (p.label w)
  raised s w c = let l : cond (changes w (step_at f s)) (suc (p.label w)) (p.label w) ≡ suc (p.label w) = ap (λ b. cond b (suc (p.label w)) (p.label w)) c in omega arith

  higher : (b : Bool) (l : ℕ) → 0 < l → 0 < cond b (suc l) l
  higher true l h = omega arith
  higher false l h = h

  -- the wire that a step undoes is live before
  pub down_live : (s : StepId) (w : WireId) → Stands f p (Down s) → main_wire (step_at f s) ≡ Some w → live f p w ≡ true
  down_live s w st e =
      let at = st.1.changed w (undone_changes f (step_at f s) w st.0 e) in
      let l : p.label w ≡ suc (label_before f s w) = at.at in
      live_from f p w (record { kept = at.kept; why = inr (inl (omega arith)) })

  -- a main wire that is not live before a move is live after it
  pub live_new : (m : Move) (w : WireId) → Stands f p m → main_of f m ≡ Some w → live f p w ≡ false → live f (moved f p m) w ≡ true
  live_new (Up s) w st e off =
      let c = undone_changes f (step_at f s) w st.0 e in
      live_from f (moved f p (Up s)) w (record { kept = (st.1.changed w c).kept; why = inr (inl (raised s w c)) })
  live_new (Down s) w st e off = absurd (both_ways (live f p w) off (down_live s w st e))
  live_new (Do s) w st e off = elim (main_how (step_at f s) w e) [
    | inl c ↦ live_from f (moved f p (Do s)) w (record { kept = (st.2.changed w c).kept; why = inr (inl (raised s w c)) })
    | inr m ↦ live_from f (moved f p (Do s)) w (record { kept = (st.2.uses w m.1).kept; why = inr (inr (or_left (measures w (step_at f s)) (p.measured w) m.0)) })
  ]
  live_new (Free v) w st e off = absurd (cc)

  -- Up and Do keep live wires live
  pub up_stay : (s : StepId) (w : WireId) → live f p w ≡ true → live f (moved f p (Up s)) w ≡ true
  up_stay s w on = let h = live_to f p w on in live_from f (moved f p (Up s)) w (record {
    kept = h.kept;
    why = elim h.why [
      | inl i ↦ inl i
      | inr (inl l) ↦ inr (inl (higher (changes w (step_at f s)) (p.label w) l))
      | inr (inr m) ↦ inr (inr m)
    ];
  })

  pub do_stay : (s : StepId) (w : WireId) → live f p w ≡ true → live f (moved f p (Do s)) w ≡ true
  do_stay s w on = let h = live_to f p w on in live_from f (moved f p (Do s)) w (record {
    kept = h.kept;
    why = elim h.why [
      | inl i ↦ inl i
      | inr (inl l) ↦ inr (inl (higher (changes w (step_at f s)) (p.label w) l))
      | inr (inr m) ↦ inr (inr (or_right (measures w (step_at f s)) (p.measured w) m))
    ];
  })

  -- a move that makes a wire live leaves the live ones live
  pub live_stay : (m : Move) (w v : WireId) → Stands f p m → main_of f m ≡ Some w → live f p w ≡ false → live f p v ≡ true → live f (moved f p m) v ≡ true
  live_stay (Up s) w v st e off on = up_stay s v on
  live_stay (Down s) w v st e off on = absurd (both_ways (live f p w) off (down_live s w st e))
  live_stay (Do s) w v st e off on = do_stay s v on
  live_stay (Free u) w v st e off on = absurd (cc)

  -- a wire that is live after a move was so before, or is its main wire
  pub live_back : (m : Move) (v : WireId) → live f (moved f p m) v ≡ true → (live f p v ≡ true) ⊎ (main_of f m ≡ Some v)
  live_back (Up s) v h = elim (cases_Bool (changes v (step_at f s))) [
    | inl c ↦ inr (main_of_changed (step_at f s) v c)
    | inr c ↦ inl (ap (λ b. not (p.gone v) && (is_input f v || nat_lt 0 (cond b (suc (p.label v)) (p.label v)) || p.measured v)) (sym c) ∙ h)
  ]
  live_back (Down s) v h = elim (cases_Bool (changes v (step_at f s))) [
    | inl c ↦ inr (main_of_changed (step_at f s) v c)
    | inr c ↦ inl (ap (λ b. not (p.gone v) && (is_input f v || nat_lt 0 (cond b (pred (p.label v)) (p.label v)) || p.measured v)) (sym c) ∙ h)
  ]
  live_back (Do s) v h = elim (cases_Bool (changes v (step_at f s))) [
    | inl c ↦ inr (main_of_changed (step_at f s) v c)
    | inr c ↦ elim (cases_Bool (measures v (step_at f s))) [
      | inl m ↦ inr (main_of_measured (step_at f s) v m)
      | inr m ↦ inl (ap₂ (λ b d. not (p.gone v) && (is_input f v || nat_lt 0 (cond b (suc (p.label v)) (p.label v)) || (d || p.measured v))) (sym c) (sym m) ∙ h)
    ]
  ]
  live_back (Free u) v h =
      let g = live_to f (moved f p (Free u)) v h in
      inl (live_from f p v (record { kept = elim (cases_Bool (p.gone v)) [ inl t ↦ absurd (both_ways _ g.kept (or_right _ (p.gone v) t)) | inr t ↦ t ]; why = g.why }))
