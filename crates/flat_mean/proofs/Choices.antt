-- The H steps are numbered one by one.
use Rattle.std.proofs.Common.{◌≡◌, ◌≢◌, ℕ, zero, suc, ◌+◌, ◌<◌, ◌≤◌, ◌⊎◌, inl, inr, Bool, true, false, cond, List, refl, sym, ap, subst, arith, eq-or-lt_of_le, lt-suc_self, lt_trans, le_refl}
use Rattle.flat_core.specs.declared.step.Step.{Step}
use Rattle.flat_mean.specs.Row.{is_h}
use Rattle.flat_mean.specs.Path.{step_number, choices_at}
use Rattle.flat_mean.proofs.Values.{le_cases}

-- an H step with a choice number
pub record Chooses (steps : List Step) (n j : ℕ) : Type 0 where
  pub step : ℕ
  pub below : step < n
  pub is : is_h (step_number steps step) ≡ true
  pub number : choices_at steps step ≡ j

module _ (steps : List Step) where
  pub choices_mono : (n k : ℕ) → k ≤ n → choices_at steps k ≤ choices_at steps n
  choices_mono zero k h = let e : k ≡ 0 = omega arith in subst (λ x. choices_at steps x ≤ 0) (sym e) (le_refl 0)
  choices_mono (suc n) k h = by (choices_mono n k) (le_cases k n h)
    where
      by : (k ≤ n → choices_at steps k ≤ choices_at steps n) → (k ≡ suc n) ⊎ (k ≤ n) → choices_at steps k ≤ choices_at steps (suc n)
      by ih (inl e) = subst (λ x. choices_at steps x ≤ choices_at steps (suc n)) (sym e) (le_refl _)
      by ih (inr l) = let h' : choices_at steps k ≤ choices_at steps n = ih l in omega (arith, h')

  choices_step : (s : ℕ) → is_h (step_number steps s) ≡ true → choices_at steps (suc s) ≡ choices_at steps s + 1
  choices_step s h = ap (λ b. choices_at steps s + cond b 1 0) h

  pub choices_less : (s k : ℕ) → s < k → is_h (step_number steps s) ≡ true → choices_at steps s < choices_at steps k
  choices_less s k l h =
      let up : choices_at steps (suc s) ≤ choices_at steps k = choices_mono k (suc s) l in
      let e : choices_at steps (suc s) ≡ choices_at steps s + 1 = choices_step s h in
      omega (arith, up, e)

  pub choices_other : (s k : ℕ) → s ≢ k → is_h (step_number steps s) ≡ true → is_h (step_number steps k) ≡ true → choices_at steps s ≢ choices_at steps k
  choices_other s k ne hs hk e = by (order s k ne)
    where
      order : (a b : ℕ) → a ≢ b → (a < b) ⊎ (b < a)
      order a b n = grind arith

      by : (s < k) ⊎ (k < s) → ⊥
      by (inl l) = let f : choices_at steps s < choices_at steps k = choices_less s k l hs in omega (arith, f, e)
      by (inr l) = let f : choices_at steps k < choices_at steps s = choices_less k s l hk in omega (arith, f, e)

  pub chooses : (n j : ℕ) → j < choices_at steps n → Chooses steps n j
  chooses zero j l = absurd (omega arith)
  chooses (suc n) j l = split (chooses n j) (is_h (step_number steps n)) refl
    where
      wider : Chooses steps n j → Chooses steps (suc n) j
      wider w = record { step = w.step; below = lt_trans w.below (lt-suc_self n); is = w.is; number = w.number }

      at : (j < choices_at steps n → Chooses steps n j) → is_h (step_number steps n) ≡ true → (j ≡ choices_at steps n) ⊎ (j < choices_at steps n) → Chooses steps (suc n) j
      at ih t (inl e) = record { step = n; below = lt-suc_self n; is = t; number = sym e }
      at ih t (inr m) = wider (ih m)

      split : (j < choices_at steps n → Chooses steps n j) → (b : Bool) → is_h (step_number steps n) ≡ b → Chooses steps (suc n) j
      split ih true t = let e : choices_at steps (suc n) ≡ choices_at steps n + 1 = choices_step n t in at ih t (eq-or-lt_of_le (omega (arith, e, l)))
      split ih false t = let e : choices_at steps (suc n) ≡ choices_at steps n + 0 = ap (λ b. choices_at steps n + cond b 1 0) t in wider (ih (omega (arith, e, l)))
