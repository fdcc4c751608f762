-- What is known of a progress that moves have reached: values and factors rest on those choice bits alone that are
-- taken, which are the bits of the H steps done.
use Rattle.std.proofs.Common.{◌≡◌, ◌≢◌, ℕ, suc, pred, ◌<◌, ◌≤◌, Bool, true, false, cond, ◌||◌, ◌==◌, length, refl, sym, ◌∙◌, ap, subst, eq-eqb, eqb-true, le_of_lt, zero-le}
use Rattle.flat_core.specs.declared.step.WireId.{WireId}
use Rattle.flat_core.specs.declared.step.StepId.{StepId}
use Rattle.flat_core.specs.Form.{FlatForm}
use Rattle.flat_core.specs.Label.{step_id, changes, step_at}
use Rattle.flat_core.specs.Ends.{undone_step}
use Rattle.flat_mean.specs.Row.{Row, put, is_h, new_value}
use Rattle.flat_mean.specs.Path.{row_at, choices_at}
use Rattle.flat_mean.proofs.Sums.{put-same, put-other}
use Rattle.flat_mean.proofs.Values.{label_at, value_at, value-row}
use Rattle.flat_mean.proofs.Choices.{choices_other}
use Rattle.flat_mean.proofs.Local.{AgreeOn, new_same, new_bit}
use Rattle.move_plan.specs.declared.moves.Move.TheVariants.{Do}
use Rattle.move_plan.specs.Progress.{Progress, StandsAt, at_start, moved}
use Rattle.move_plan.proofs.Standing.{AtLabels, ControlsDiffer, label_raised}
use Rattle.move_plan.proofs.PathRows.{undo}

-- two choices agree on the bits that are taken
pub record Same (taken c c' : ℕ → Bool) : Type 0 where
  pub at : (j : ℕ) → taken j ≡ true → c j ≡ c' j

pub record Fixed (f : FlatForm) (input : Row) (p : Progress) (taken : ℕ → Bool) : Type 0 where
  pub number : (s : StepId) → s.number < length f.steps → is_h (step_at f s) ≡ true → taken (choices_at f.steps s.number) ≡ p.done s
  pub value : (c c' : ℕ → Bool) → Same taken c c' → (w : WireId) → value_at f.steps input c (length f.steps) w.number (p.label w) ≡ value_at f.steps input c' (length f.steps) w.number (p.label w)
  pub settled : (c c' : ℕ → Bool) → Same taken c c' → (s : StepId) → s.number < length f.steps → p.done s ≡ true → AgreeOn (step_at f s) (row_at f.steps input c s.number) (row_at f.steps input c' s.number)

-- the bits taken once the step is done
abbrev pub take_bit : FlatForm → (ℕ → Bool) → StepId → ℕ → Bool
take_bit f taken s = cond (is_h (step_at f s)) (put (choices_at f.steps s.number) true taken) taken

module _ (f : FlatForm) (input : Row) where
  abbrev V : WireId → (ℕ → Bool) → ℕ → Bool
  V w d l = value_at f.steps input d (length f.steps) w.number l

  pub fixed_start : Fixed f input at_start (λ _. false)
  fixed_start = record {
    number = λ s lt h. refl;
    value = λ c c' same w. value-row f.steps input c (length f.steps) 0 w.number 0 zero-le refl ∙ sym (value-row f.steps input c' (length f.steps) 0 w.number 0 zero-le refl);
    settled = λ c c' same s lt d. absurd (cc);
  }

  -- the value of a wire that stands at a label before step n
  here : (p : Progress) (taken c c' : ℕ → Bool) (n : ℕ) (w : WireId) → n ≤ length f.steps → Fixed f input p taken → Same taken c c' → StandsAt p w (label_at f.steps n w.number) → row_at f.steps input c n w.number ≡ row_at f.steps input c' n w.number
  here p taken c c' n w le fx same st =
      sym (value-row f.steps input c (length f.steps) n w.number (p.label w) le (sym st.at))
      ∙ fx.value c c' same w
      ∙ value-row f.steps input c' (length f.steps) n w.number (p.label w) le (sym st.at)

  -- the named wires' values before step n
  now : (p : Progress) (taken c c' : ℕ → Bool) (s : StepId) (n : ℕ) → n ≤ length f.steps → Fixed f input p taken → AtLabels f p s n → Same taken c c' → AgreeOn (step_at f s) (row_at f.steps input c n) (row_at f.steps input c' n)
  now p taken c c' s n le fx at same = record {
    changed = λ w h. here p taken c c' n w le fx same (at.changed w h);
    uses = λ w h. here p taken c c' n w le fx same (at.uses w h);
  }

  -- choices that agree on one bit more
  more : (taken c c' : ℕ → Bool) (s : StepId) → Same (take_bit f taken s) c c' → Same taken c c'
  more taken c c' s same = record { at = λ j t. same.at j (by (is_h (step_at f s)) j t) }
    where
      kept : (n j : ℕ) → taken j ≡ true → put n true taken j ≡ true
      kept n j t = split (j == n)
        where
          split : (b : Bool) → cond b true (taken j) ≡ true
          split true = refl
          split false = t

      by : (b : Bool) (j : ℕ) → taken j ≡ true → cond b (put (choices_at f.steps s.number) true taken) taken j ≡ true
      by true j t = kept (choices_at f.steps s.number) j t
      by false j t = t

  own_bit : (taken c c' : ℕ → Bool) (s : StepId) → Same (take_bit f taken s) c c' → is_h (step_at f s) ≡ true → c (choices_at f.steps s.number) ≡ c' (choices_at f.steps s.number)
  own_bit taken c c' s same h =
      same.at (choices_at f.steps s.number) (ap (λ b. cond b (put (choices_at f.steps s.number) true taken) taken (choices_at f.steps s.number)) h ∙ put-same (choices_at f.steps s.number) true taken)

  -- the target's new value
  new_now : (taken c c' : ℕ → Bool) (s : StepId) → Same (take_bit f taken s) c c' → (r r' : Row) → AgreeOn (step_at f s) r r' → new_value (step_at f s) (c (choices_at f.steps s.number)) r ≡ new_value (step_at f s) (c' (choices_at f.steps s.number)) r'
  new_now taken c c' s same r r' ag = new_same (step_at f s) (c (choices_at f.steps s.number)) r r' ag ∙ by (is_h (step_at f s)) refl
    where
      by : (b : Bool) → is_h (step_at f s) ≡ b → new_value (step_at f s) (c (choices_at f.steps s.number)) r' ≡ new_value (step_at f s) (c' (choices_at f.steps s.number)) r'
      by true h = ap (λ k. new_value (step_at f s) k r') (own_bit taken c c' s same h)
      by false h = new_bit (step_at f s) (c (choices_at f.steps s.number)) (c' (choices_at f.steps s.number)) r' h

  -- values after a step is done
  pub value_up : (p : Progress) (taken : ℕ → Bool) (s : StepId) → s.number < length f.steps → Fixed f input p taken → AtLabels f p s s.number
      → (c c' : ℕ → Bool) → Same (take_bit f taken s) c c' → (w : WireId)
      → V w c (cond (changes w (step_at f s)) (suc (p.label w)) (p.label w)) ≡ V w c' (cond (changes w (step_at f s)) (suc (p.label w)) (p.label w))
  value_up p taken s lt fx at c c' same w = by (changes w (step_at f s)) refl
    where
      after : (d : ℕ → Bool) → changes w (step_at f s) ≡ true → V w d (suc (p.label w)) ≡ new_value (step_at f s) (d (choices_at f.steps s.number)) (row_at f.steps input d s.number)
      after d t =
          value-row f.steps input d (length f.steps) (suc s.number) w.number (suc (p.label w)) lt (label_raised f s w t ∙ ap suc (sym (at.changed w t).at))
          ∙ ap (λ b. cond b (new_value (step_at f s) (d (choices_at f.steps s.number)) (row_at f.steps input d s.number)) (row_at f.steps input d s.number w.number)) t

      by : (b : Bool) → changes w (step_at f s) ≡ b → V w c (cond b (suc (p.label w)) (p.label w)) ≡ V w c' (cond b (suc (p.label w)) (p.label w))
      by true t = after c t ∙ new_now taken c c' s same _ _ (now p taken c c' s s.number (le_of_lt lt) fx at (more taken c c' s same)) ∙ sym (after c' t)
      by false t = fx.value c c' (more taken c c' s same) w

  -- values after an X step is undone
  pub value_down : (p : Progress) (taken : ℕ → Bool) (s : StepId) → s.number < length f.steps → undone_step f (step_at f s) ≡ true → ControlsDiffer (step_at f s) → is_h (step_at f s) ≡ false → Fixed f input p taken → AtLabels f p s (suc s.number)
      → (c c' : ℕ → Bool) → Same taken c c' → (w : WireId)
      → V w c (cond (changes w (step_at f s)) (pred (p.label w)) (p.label w)) ≡ V w c' (cond (changes w (step_at f s)) (pred (p.label w)) (p.label w))
  value_down p taken s lt u own nh fx at c c' same w = by (changes w (step_at f s)) refl
    where
      after : (d : ℕ → Bool) → changes w (step_at f s) ≡ true → V w d (pred (p.label w)) ≡ new_value (step_at f s) (d (choices_at f.steps s.number)) (row_at f.steps input d (suc s.number))
      after d t =
          value-row f.steps input d (length f.steps) s.number w.number (pred (p.label w)) (le_of_lt lt) (sym (ap pred ((at.changed w t).at ∙ label_raised f s w t)))
          ∙ sym (undo f (step_at f s) (d (choices_at f.steps s.number)) (d (choices_at f.steps s.number)) (row_at f.steps input d s.number) w u own t)

      by : (b : Bool) → changes w (step_at f s) ≡ b → V w c (cond b (pred (p.label w)) (p.label w)) ≡ V w c' (cond b (pred (p.label w)) (p.label w))
      by true t =
          after c t
          ∙ new_same (step_at f s) (c (choices_at f.steps s.number)) _ _ (now p taken c c' s (suc s.number) lt fx at same)
          ∙ new_bit (step_at f s) (c (choices_at f.steps s.number)) (c' (choices_at f.steps s.number)) _ nh
          ∙ sym (after c' t)
      by false t = fx.value c c' same w

  -- one more step done for the only time
  pub fixed_do : (p : Progress) (taken : ℕ → Bool) (s : StepId) → s.number < length f.steps → Fixed f input p taken → AtLabels f p s s.number → Fixed f input (moved f p (Do s)) (take_bit f taken s)
  fixed_do p taken s lt fx at = record {
    number = λ k kl h. other k kl h (k.number == s.number) refl;
    value = value_up p taken s lt fx at;
    settled = λ c c' same k kl d. sett c c' same k kl (k.number == s.number) refl d;
  }
    where
      off : (k : StepId) → is_h (step_at f k) ≡ true → k.number ≢ s.number → (b : Bool) → is_h (step_at f s) ≡ b → cond b (put (choices_at f.steps s.number) true taken) taken (choices_at f.steps k.number) ≡ taken (choices_at f.steps k.number)
      off k h ne true hs = put-other (choices_at f.steps s.number) true taken (choices_at f.steps k.number) (choices_other f.steps k.number s.number ne h hs)
      off k h ne false hs = refl

      other : (k : StepId) → k.number < length f.steps → is_h (step_at f k) ≡ true → (b : Bool) → (k.number == s.number) ≡ b → take_bit f taken s (choices_at f.steps k.number) ≡ (b || p.done k)
      other k kl h true e =
          let same : k ≡ s = ap step_id (eqb-true k.number s.number e) in
          let hs : is_h (step_at f s) ≡ true = ap (λ (x : StepId). is_h (step_at f x)) (sym same) ∙ h in
          ap (λ b. cond b (put (choices_at f.steps s.number) true taken) taken (choices_at f.steps k.number)) hs
          ∙ ap (λ (x : StepId). put (choices_at f.steps s.number) true taken (choices_at f.steps x.number)) same
          ∙ put-same (choices_at f.steps s.number) true taken
      other k kl h false e =
          let ne : k.number ≢ s.number = λ g. let t : (k.number == s.number) ≡ true = eq-eqb k.number s.number g in let no : true ≡ false = sym t ∙ e in (cc) in
          off k h ne (is_h (step_at f s)) refl ∙ fx.number k kl h

      sett : (c c' : ℕ → Bool) → Same (take_bit f taken s) c c' → (k : StepId) → k.number < length f.steps → (b : Bool) → (k.number == s.number) ≡ b → (b || p.done k) ≡ true → AgreeOn (step_at f k) (row_at f.steps input c k.number) (row_at f.steps input c' k.number)
      sett c c' same k kl true e d =
          let is : k ≡ s = ap step_id (eqb-true k.number s.number e) in
          subst (λ (x : StepId). AgreeOn (step_at f x) (row_at f.steps input c x.number) (row_at f.steps input c' x.number)) (sym is) (now p taken c c' s s.number (le_of_lt lt) fx at (more taken c c' s same))
      sett c c' same k kl false e d = fx.settled c c' (more taken c c' s same) k kl d
