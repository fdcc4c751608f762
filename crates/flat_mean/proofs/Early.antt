-- What a path does up to a step rests on the choice bits before it.
use Rattle.std.proofs.Common.{◌≡◌, ℕ, zero, suc, ◌+◌, ◌<◌, ◌≤◌, Bool, true, false, cond, List, refl, ◌∙◌, ap, arith}
use Rattle.std.proofs.Math.Path.{fun_ext}
use Rattle.flat_core.specs.declared.step.Step.{Step}
use Rattle.flat_core.specs.Label.{wire_id, changes}
use Rattle.flat_mean.specs.Row.{Row, is_h, next, is_possible, eighths}
use Rattle.flat_mean.specs.Path.{step_number, row_at, choices_at}
use Rattle.flat_mean.proofs.Local.{new_bit, possible_bit, eighths_bit}
use Rattle.flat_mean.proofs.Choices.{choices_mono}

-- only an H step looks at its bit
pub bit_eq : {A : Type 0} (s : Step) (g : Bool → A) (a b : Bool) → (is_h s ≡ true → a ≡ b) → (is_h s ≡ false → g a ≡ g b) → g a ≡ g b
bit_eq s g a b h k = by (is_h s) refl
  where
    by : (v : Bool) → is_h s ≡ v → g a ≡ g b
    by true e = ap g (h e)
    by false e = k e

pub next_bit : (s : Step) (k k' : Bool) (r : Row) → (is_h s ≡ true → k ≡ k') → next s k r ≡ next s k' r
next_bit s k k' r h = bit_eq s (λ b. next s b r) k k' h (λ e. fun_ext (λ q. ap (λ v. cond (changes (wire_id q) s) v (r q)) (new_bit s k k' r e)))

-- two choices agree on the bits below a number
pub record Below (n : ℕ) (c c' : ℕ → Bool) : Type 0 where
  pub at : (j : ℕ) → j < n → c j ≡ c' j

pub fewer : (m n : ℕ) (c c' : ℕ → Bool) → m ≤ n → Below n c c' → Below m c c'
fewer m n c c' le h = record { at = λ j lt. h.at j (omega (arith, le, lt)) }

module _ (steps : List Step) (input : Row) where
  own : (s : ℕ) → is_h (step_number steps s) ≡ true → choices_at steps s < choices_at steps (suc s)
  own s h = let e : choices_at steps (suc s) ≡ choices_at steps s + 1 = ap (λ b. choices_at steps s + cond b 1 0) h in omega (arith, e)

  pub bit_early : (c c' : ℕ → Bool) (s : ℕ) → Below (choices_at steps (suc s)) c c' → is_h (step_number steps s) ≡ true → c (choices_at steps s) ≡ c' (choices_at steps s)
  bit_early c c' s h e = h.at (choices_at steps s) (own s e)

  pub row_early : (c c' : ℕ → Bool) (s : ℕ) → Below (choices_at steps s) c c' → row_at steps input c s ≡ row_at steps input c' s
  row_early c c' zero h = refl
  row_early c c' (suc s) h =
      next_bit (step_number steps s) (c (choices_at steps s)) (c' (choices_at steps s)) (row_at steps input c s) (bit_early c c' s h)
      ∙ ap (next (step_number steps s) (c' (choices_at steps s))) (row_early c c' s (fewer (choices_at steps s) (choices_at steps (suc s)) c c' (choices_mono steps (suc s) s (omega arith)) h))

  pub possible_early : (c c' : ℕ → Bool) (s : ℕ) → Below (choices_at steps (suc s)) c c' → is_possible (step_number steps s) (c (choices_at steps s)) (row_at steps input c s) ≡ is_possible (step_number steps s) (c' (choices_at steps s)) (row_at steps input c' s)
  possible_early c c' s h =
      bit_eq (step_number steps s) (λ b. is_possible (step_number steps s) b (row_at steps input c s)) (c (choices_at steps s)) (c' (choices_at steps s)) (bit_early c c' s h) (possible_bit (step_number steps s) (c (choices_at steps s)) (c' (choices_at steps s)) (row_at steps input c s))
      ∙ ap (is_possible (step_number steps s) (c' (choices_at steps s))) (row_early c c' s (fewer (choices_at steps s) (choices_at steps (suc s)) c c' (choices_mono steps (suc s) s (omega arith)) h))

  pub eighths_early : (c c' : ℕ → Bool) (s : ℕ) → Below (choices_at steps (suc s)) c c' → eighths (step_number steps s) (c (choices_at steps s)) (row_at steps input c s) ≡ eighths (step_number steps s) (c' (choices_at steps s)) (row_at steps input c' s)
  eighths_early c c' s h =
      bit_eq (step_number steps s) (λ b. eighths (step_number steps s) b (row_at steps input c s)) (c (choices_at steps s)) (c' (choices_at steps s)) (bit_early c c' s h) (eighths_bit (step_number steps s) (c (choices_at steps s)) (c' (choices_at steps s)) (row_at steps input c s))
      ∙ ap (eighths (step_number steps s) (c' (choices_at steps s))) (row_early c c' s (fewer (choices_at steps s) (choices_at steps (suc s)) c c' (choices_mono steps (suc s) s (omega arith)) h))
