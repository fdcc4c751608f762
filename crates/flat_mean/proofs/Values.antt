-- The value of a wire at a label.
use Rattle.std.proofs.Common.{◌≡◌, ℕ, zero, suc, ◌+◌, ◌<◌, ◌≤◌, ◌⊎◌, inl, inr, Bool, true, false, cond, leb, List, length, take, take_all, add-one, add-zero, refl, sym, ◌∙◌, ap, subst, arith, eq-or-lt_of_le, le_of_suc-le-suc, le_refl, leb-true, leb-false}
use Rattle.flat_core.specs.declared.step.Step.{Step}
use Rattle.std.proofs.lemmas.Bool.{cases_lt}
use Rattle.std.proofs.lemmas.List.{get_or_past}
use Rattle.flat_core.specs.Label.{wire_id, changes, no_step, label_after}
use Rattle.flat_core.proofs.Labels.{label_after-take_more}
use Rattle.flat_mean.specs.Row.{Row, new_value}
use Rattle.flat_mean.specs.Path.{step_number, row_at, choices_at}

-- the label of a wire before step s, step by step
abbrev pub label_at : List Step → ℕ → ℕ → ℕ
label_at steps zero q = 0
label_at steps (suc s) q = label_at steps s q + cond (changes (wire_id q) (step_number steps s)) 1 0

-- it is the number of steps before that change the wire
pub label_at-is : (steps : List Step) (s q : ℕ) → label_at steps s q ≡ label_after (take s steps) (wire_id q)
label_at-is steps zero q = refl
label_at-is steps (suc s) q = by (cases_lt s (length steps)) (label_at-is steps s q)
  where
    by : (s < length steps) ⊎ (length steps ≤ s) → label_at steps s q ≡ label_after (take s steps) (wire_id q) → label_at steps (suc s) q ≡ label_after (take (suc s) steps) (wire_id q)
    by (inl l) ih =
        let more : label_after (take (s + 1) steps) (wire_id q) ≡ label_after (take s steps) (wire_id q) + cond (changes (wire_id q) (step_number steps s)) 1 0 = label_after-take_more steps (wire_id q) s l in
        ap (λ x. x + cond (changes (wire_id q) (step_number steps s)) 1 0) ih ∙ sym (ap (λ n. label_after (take n steps) (wire_id q)) (sym (add-one s)) ∙ more)
    by (inr l) ih =
        ap (λ x. label_at steps s q + cond (changes (wire_id q) x) 1 0) (get_or_past steps s no_step l) ∙ add-zero _ ∙ ih ∙ ap (λ xs. label_after xs (wire_id q)) (take_all s steps l ∙ sym (take_all (suc s) steps (omega arith)))

pub le_cases : (k n : ℕ) → k ≤ suc n → (k ≡ suc n) ⊎ (k ≤ n)
le_cases k n h = by (eq-or-lt_of_le h)
  where
    by : (k ≡ suc n) ⊎ (k < suc n) → (k ≡ suc n) ⊎ (k ≤ n)
    by (inl e) = inl e
    by (inr l) = inr (le_of_suc-le-suc l)

module _ (steps : List Step) where
  pub label_mono : (n k q : ℕ) → k ≤ n → label_at steps k q ≤ label_at steps n q
  label_mono zero k q h = let e : k ≡ 0 = omega arith in subst (λ x. label_at steps x q ≤ 0) (sym e) (le_refl 0)
  label_mono (suc n) k q h = by (label_mono n k q) (le_cases k n h)
    where
      by : (k ≤ n → label_at steps k q ≤ label_at steps n q) → (k ≡ suc n) ⊎ (k ≤ n) → label_at steps k q ≤ label_at steps (suc n) q
      by ih (inl e) = subst (λ x. label_at steps x q ≤ label_at steps (suc n) q) (sym e) (le_refl _)
      by ih (inr l) = let h' : label_at steps k q ≤ label_at steps n q = ih l in omega (arith, h')

  -- a row keeps the value of a wire as long as its label stays
  pub row_stays : (input : Row) (c : ℕ → Bool) (n k q : ℕ) → k ≤ n → label_at steps k q ≡ label_at steps n q → row_at steps input c k q ≡ row_at steps input c n q
  row_stays input c zero k q h e = let z : k ≡ 0 = omega arith in ap (λ x. row_at steps input c x q) z
  row_stays input c (suc n) k q h e = by (row_stays input c n k q) (le_cases k n h)
    where
      still : (b : Bool) (l : ℕ) (x y : Bool) → l + cond b 1 0 ≤ l → cond b x y ≡ y
      still true l x y h = absurd (omega arith)
      still false l x y h = refl

      by : (k ≤ n → label_at steps k q ≡ label_at steps n q → row_at steps input c k q ≡ row_at steps input c n q) → (k ≡ suc n) ⊎ (k ≤ n) → row_at steps input c k q ≡ row_at steps input c (suc n) q
      by ih (inl z) = ap (λ x. row_at steps input c x q) z
      by ih (inr l) =
          let up : label_at steps k q ≤ label_at steps n q = label_mono n k q l in
          let same : label_at steps k q ≡ label_at steps n q = omega (arith, up, e) in
          ih l same ∙ sym (still (changes (wire_id q) (step_number steps n)) (label_at steps n q) (new_value (step_number steps n) (c (choices_at steps n)) (row_at steps input c n)) (row_at steps input c n q) (omega (arith, up, e)))

  -- the value of a wire at a label: that before the last of the first n + 1 moments at which its label is not above
  abbrev pub value_at : Row → (ℕ → Bool) → ℕ → ℕ → ℕ → Bool
  value_at input c zero q i = input q
  value_at input c (suc n) q i = cond (leb (label_at steps (suc n) q) i) (row_at steps input c (suc n) q) (value_at input c n q i)

  pub value-row : (input : Row) (c : ℕ → Bool) (n k q i : ℕ) → k ≤ n → label_at steps k q ≡ i → value_at input c n q i ≡ row_at steps input c k q
  value-row input c zero k q i h e = let z : k ≡ 0 = omega arith in sym (ap (λ x. row_at steps input c x q) z)
  value-row input c (suc n) k q i h e = split (value-row input c n k q i) (leb (label_at steps (suc n) q) i) refl
    where
      low : label_at steps (suc n) q ≤ i → row_at steps input c (suc n) q ≡ row_at steps input c k q
      low l = let up : label_at steps k q ≤ label_at steps (suc n) q = label_mono (suc n) k q h in sym (row_stays input c (suc n) k q h (omega (arith, up, l, e)))

      high : (k ≤ n → label_at steps k q ≡ i → value_at input c n q i ≡ row_at steps input c k q) → i < label_at steps (suc n) q → (k ≡ suc n) ⊎ (k ≤ n) → value_at input c n q i ≡ row_at steps input c k q
      high ih l (inl z) = let f : label_at steps (suc n) q ≡ i = subst (λ x. label_at steps x q ≡ i) z e in absurd (omega (arith, f, l))
      high ih l (inr kl) = ih kl e

      split : (k ≤ n → label_at steps k q ≡ i → value_at input c n q i ≡ row_at steps input c k q) → (b : Bool) → leb (label_at steps (suc n) q) i ≡ b → cond b (row_at steps input c (suc n) q) (value_at input c n q i) ≡ row_at steps input c k q
      split ih true t = low (leb-true _ _ t)
      split ih false t = high ih (leb-false _ _ t) (le_cases k n h)
