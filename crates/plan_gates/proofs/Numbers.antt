-- The outcome numbers of measures: below the count of all, and each of one measure alone.
use Rattle.std.proofs.Common.{◌≡◌, ℕ, zero, suc, ◌+◌, ◌<◌, ◌≤◌, Bool, true, cond, List, [], ◌∷◌, length, take, get_or, inl, inr, refl, ◌∙◌, ap, arith}
use Rattle.std.proofs.lemmas.Bool.{cases_order}
use Rattle.std.proofs.lemmas.List.Sums.{sum_by_more_le}
use Rattle.flat_core.specs.declared.step.Step.{Step}
use Rattle.flat_core.specs.declared.step.Step.TheVariants.{X, H, P, M}
use Rattle.flat_core.specs.declared.step.StepId.{StepId}
use Rattle.flat_core.specs.Form.{FlatForm}
use Rattle.flat_core.specs.Label.{step_id, no_step, step_at}
use Rattle.flat_core.specs.Sound.{IsFlat, HasNumber, is_m, count_measures}
use Rattle.qubit_alloc.specs.PlacedMoves.{number_in}

number_of_one : (s : Step) (n : ℕ) → is_m s ≡ true → HasNumber n s → number_in s ≡ n
number_of_one (X t a b) n m h = absurd (cc)
number_of_one (H t a) n m h = absurd (cc)
number_of_one (P e a) n m h = absurd (cc)
number_of_one (M w k) n m h = h

abbrev one_if : Bool → ℕ
one_if b = cond b 1 0

counted_one : (s : Step) → is_m s ≡ true → one_if (is_m s) ≡ 1
counted_one s m = ap one_if m

-- up to another place the list has the same part up to an earlier one, and the same element there
take_less : {A : Type 0} (xs : List A) (i j : ℕ) → i < j → take i (take j xs) ≡ take i xs
take_less [] zero j l = refl
take_less [] (suc i) zero l = refl
take_less [] (suc i) (suc j) l = refl
take_less (x ∷ xs) zero j l = refl
take_less (x ∷ xs) (suc i) zero l = absurd (omega (arith, l))
take_less (x ∷ xs) (suc i) (suc j) l = ap (λ ys. x ∷ ys) (take_less xs i j (omega (arith, l)))

take_at : {A : Type 0} (xs : List A) (i j : ℕ) (d : A) → i < j → get_or (take j xs) i d ≡ get_or xs i d
take_at [] zero zero d l = refl
take_at [] zero (suc j) d l = refl
take_at [] (suc i) zero d l = refl
take_at [] (suc i) (suc j) d l = refl
take_at (x ∷ xs) i zero d l = absurd (omega (arith, l))
take_at (x ∷ xs) zero (suc j) d l = refl
take_at (x ∷ xs) (suc i) (suc j) d l = take_at xs i j d (omega (arith, l))

take_long : {A : Type 0} (xs : List A) (i j : ℕ) → i < j → j < length xs → i < length (take j xs)
take_long [] i j l k = absurd (omega (arith, k))
take_long (x ∷ xs) i zero l k = absurd (omega (arith, l))
take_long (x ∷ xs) zero (suc j) l k = omega arith
take_long (x ∷ xs) (suc i) (suc j) l k = let h = take_long xs i j (omega (arith, l)) (omega (arith, k)) in omega (arith, h)

module _ (f : FlatForm) (ok : IsFlat f) where
  pub number_at : (s : StepId) → s.number < length f.steps → is_m (step_at f s) ≡ true → number_in (step_at f s) ≡ count_measures (take s.number f.steps)
  number_at s lt m = number_of_one (step_at f s) (count_measures (take s.number f.steps)) m (ok.numbered s lt)

  pub number_below : (s : StepId) → s.number < length f.steps → is_m (step_at f s) ≡ true → number_in (step_at f s) < f.outcomes
  number_below s lt m =
      let all : count_measures (take s.number f.steps) + one_if (is_m (step_at f s)) ≤ count_measures f.steps = sum_by_more_le (λ x. cond (is_m x) 1 0) f.steps s.number no_step lt in
      let here : one_if (is_m (step_at f s)) ≡ 1 = counted_one (step_at f s) m in
      let at : number_in (step_at f s) ≡ count_measures (take s.number f.steps) = number_at s lt m in
      let whole : f.outcomes ≡ count_measures f.steps = ok.all_counted in
      omega (arith, all, here, at, whole)

  -- of two measures the later one has the greater number
  number_rises : (s t : StepId) → s.number < t.number → t.number < length f.steps → is_m (step_at f s) ≡ true → is_m (step_at f t) ≡ true → number_in (step_at f s) < number_in (step_at f t)
  number_rises s t l lt ms mt =
      let front : List Step = take t.number f.steps in
      let all : count_measures (take s.number front) + one_if (is_m (get_or front s.number no_step)) ≤ count_measures front = sum_by_more_le (λ x. cond (is_m x) 1 0) front s.number no_step (take_long f.steps s.number t.number l lt) in
      let part : count_measures (take s.number front) ≡ count_measures (take s.number f.steps) = ap count_measures (take_less f.steps s.number t.number l) in
      let here : one_if (is_m (get_or front s.number no_step)) ≡ 1 = ap (λ (x : Step). one_if (is_m x)) (take_at f.steps s.number t.number no_step l) ∙ counted_one (step_at f s) ms in
      let first : number_in (step_at f s) ≡ count_measures (take s.number f.steps) = number_at s (omega (arith, l, lt)) ms in
      let second : number_in (step_at f t) ≡ count_measures front = number_at t lt mt in
      omega (arith, all, part, here, first, second)

  pub one_number : (s t : StepId) → s.number < length f.steps → t.number < length f.steps → is_m (step_at f s) ≡ true → is_m (step_at f t) ≡ true → number_in (step_at f s) ≡ number_in (step_at f t) → s ≡ t
  one_number s t ls lt ms mt e = elim (cases_order s.number t.number) [
    | inl g ↦ ap step_id g
    | inr (inl l) ↦ let h : number_in (step_at f s) < number_in (step_at f t) = number_rises s t l lt ms mt in absurd (omega (arith, h, e))
    | inr (inr l) ↦ let h : number_in (step_at f t) < number_in (step_at f s) = number_rises t s l ls mt ms in absurd (omega (arith, h, e))
  ]
