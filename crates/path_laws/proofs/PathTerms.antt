-- A path that counts has its term among those that the steps make one by one, and each path agrees with some outcome bits.
use Rattle.std.proofs.Common.{◌≡◌, ℕ, zero, suc, ◌+◌, ◌<◌, ◌≤◌, ◌⊎◌, inl, inr, Bool, true, false, cond, ◌&&◌, List, [], ◌∷◌, ◌++◌, length, take, refl, sym, ◌∙◌, ap, ap₂, subst, arith, add-one, eq-or-lt_of_le, le_of_suc-le-suc, lt-suc_self, lt_trans, le_refl}
use Rattle.std.specs.Prelude.{Contains}
use Rattle.std.specs.Bool.{beq}
use Rattle.std.proofs.lemmas.List.Sums.{sum_by_more}
use Rattle.flat_core.specs.declared.step.Step.{Step}
use Rattle.flat_core.specs.declared.step.Step.TheVariants.{X, H, P, M}
use Rattle.flat_core.specs.Form.{FlatForm}
use Rattle.flat_core.specs.Label.{step_id, no_step}
use Rattle.flat_core.specs.Sound.{IsFlat, is_m, count_measures, HasNumber}
use Rattle.flat_mean.specs.Row.{Row, put, next, is_h, is_possible, agrees, halvings, eighths}
use Rattle.flat_mean.specs.Path.{step_number, choices_at, row_at, all_below, sum_below, possible_path, path_agrees}
use Rattle.flat_mean.specs.Terms.{Term, first_term, branch, do_step, each, do_steps}
use Rattle.flat_mean.specs.Laws.{counts, top_term}
use Rattle.flat_mean.proofs.Sums.{put-same, put-other}
use Rattle.flat_mean.proofs.Below.{and_left, and_right, all_below_at}
use Rattle.flat_mean.proofs.Local.{possible_bit, eighths_bit}
use Rattle.flat_mean.proofs.Early.{next_bit}
use Rattle.flat_mean.proofs.Totals.{term, stepped}
use Rattle.flat_mean.proofs.Sequence.{do_first, steps-first}
use Rattle.flat_form.specs.Names.{AllOf}
use Rattle.flat_form.proofs.Both.{all_weak}
use Rattle.path_laws.specs.Laws.{EachPathHasATerm, EachPathHasAnOutcome}

-- ---- lists

all_first : (Q : Term → Type 0) (xs ys : List Term) → AllOf Q (xs ++ ys) → AllOf Q xs
all_first Q [] ys h = tt
all_first Q (x ∷ xs) ys h = (h.0, all_first Q xs ys h.1)

all_rest : (Q : Term → Type 0) (xs ys : List Term) → AllOf Q (xs ++ ys) → AllOf Q ys
all_rest Q [] ys h = h
all_rest Q (x ∷ xs) ys h = all_rest Q xs ys h.1

-- what holds of all that is made of some terms
all_made_of : (Q : Term → Type 0) (g : Term → List Term) (ts : List Term) → AllOf Q (each g ts) → AllOf (λ t. AllOf Q (g t)) ts
all_made_of Q g [] h = tt
all_made_of Q g (t ∷ ts) h = (all_first Q (g t) (each g ts) h, all_made_of Q g ts (all_rest Q (g t) (each g ts) h))

in_itself : (ts : List Term) → AllOf (Contains ts) ts
in_itself [] = tt
in_itself (t ∷ ts) = (
  (0, omega arith, refl),
  all_weak (Contains ts) (Contains (t ∷ ts)) (λ x c. (suc c.0, later (length ts) c.0 c.1, c.2)) ts (in_itself ts),
)
  where
    later : (n k : ℕ) → k < n → suc k < suc n
    later n k lt = omega (arith, lt)

-- ---- one step

-- what a choice bit makes of a term, where it is possible and the outcome bit is met
in_branch : (Q : Term → Type 0) (o : ℕ → Bool) (s : Step) (k : Bool) (t : Term) → is_possible s k t.row ≡ true → agrees o s t.row ≡ true → AllOf Q (branch o s k t) → Q (stepped s k t)
in_branch Q o s k t p a h =
    let both : (is_possible s k t.row && agrees o s t.row) ≡ true = ap₂ ◌&&◌ p a in
    let one : AllOf Q (stepped s k t ∷ []) = subst (λ b. AllOf Q (cond b (stepped s k t ∷ []) [])) both h in
    one.0

-- only an H step looks at its choice bit
stepped_bit : (s : Step) (k l : Bool) (t : Term) → is_h s ≡ false → stepped s k t ≡ stepped s l t
stepped_bit s k l t e =
    let rows : next s k t.row ≡ next s l t.row = next_bit s k l t.row (λ h. let no : true ≡ false = sym h ∙ e in absurd (cc)) in
    let turns : eighths s k t.row ≡ eighths s l t.row = eighths_bit s k l t.row e in
    ap₂ (λ (r : Row) (n : ℕ). term r (t.halvings + halvings s t.row) (t.eighths + n)) rows turns

in_step : (Q : Term → Type 0) (o : ℕ → Bool) (s : Step) (k : Bool) (t : Term) → is_possible s k t.row ≡ true → agrees o s t.row ≡ true → AllOf Q (do_step o s t) → Q (stepped s k t)
in_step Q o s k t p a h = by (is_h s) refl k p h
  where
    by : (b : Bool) → is_h s ≡ b → (l : Bool) → is_possible s l t.row ≡ true → AllOf Q (cond b (branch o s false t ++ branch o s true t) (branch o s false t)) → Q (stepped s l t)
    by true e false q all = in_branch Q o s false t q a (all_first Q (branch o s false t) (branch o s true t) all)
    by true e true q all = in_branch Q o s true t q a (all_rest Q (branch o s false t) (branch o s true t) all)
    by false e l q all = subst Q (stepped_bit s false l t e) (in_branch Q o s false t (possible_bit s false l t.row e ∙ q) a all)

-- ---- all steps

module _ (steps : List Step) (input : Row) (c : ℕ → Bool) where
  -- the path's term after the first s steps
  abbrev term_after : ℕ → Term
  term_after s = term (row_at steps input c s)
      (sum_below s (λ k. halvings (step_number steps k) (row_at steps input c k)))
      (sum_below s (λ k. eighths (step_number steps k) (c (choices_at steps k)) (row_at steps input c k)))

  reaches : (Q : Term → Type 0) (o : ℕ → Bool) (s : ℕ)
      → ((k : ℕ) → k < s → is_possible (step_number steps k) (c (choices_at steps k)) (row_at steps input c k) ≡ true)
      → ((k : ℕ) → k < s → agrees o (step_number steps k) (row_at steps input c k) ≡ true)
      → AllOf Q (do_first o steps s (first_term input ∷ [])) → Q (term_after s)
  reaches Q o zero p a h = h.0
  reaches Q o (suc s) p a h =
      let step : Step = step_number steps s in
      in_step Q o step (c (choices_at steps s)) (term_after s) (p s (lt-suc_self s)) (a s (lt-suc_self s))
      (reaches (λ t. AllOf Q (do_step o step t)) o s (λ k lt. p k (lt_trans lt (lt-suc_self s))) (λ k lt. a k (lt_trans lt (lt-suc_self s)))
      (all_made_of Q (do_step o step) (do_first o steps s (first_term input ∷ [])) h))

  -- what holds of each term that the steps make holds of that of a path that counts
  pub holds_of_path : (Q : Term → Type 0) (o : ℕ → Bool) → counts steps input o c ≡ true → AllOf Q (do_steps o steps (first_term input ∷ [])) → Q (top_term steps input c)
  holds_of_path Q o h all =
      let possible : possible_path steps input c ≡ true = and_left (possible_path steps input c) (path_agrees steps input o c) h in
      let agreed : path_agrees steps input o c ≡ true = and_right (possible_path steps input c) (path_agrees steps input o c) h in
      reaches Q o (length steps)
      (λ k lt. all_below_at (length steps) (λ s. is_possible (step_number steps s) (c (choices_at steps s)) (row_at steps input c s)) k lt possible)
      (λ k lt. all_below_at (length steps) (λ s. agrees o (step_number steps s) (row_at steps input c s)) k lt agreed)
      (subst (AllOf Q) (steps-first o steps (first_term input ∷ [])) all)

pub each_path_has_a_term : EachPathHasATerm
each_path_has_a_term steps input o c h =
    let ts : List Term = do_steps o steps (first_term input ∷ []) in
    holds_of_path steps input c (Contains ts) o h (in_itself ts)

-- ---- outcome bits

-- the outcome bits with that of a measure
abbrev told : Step → Row → (ℕ → Bool) → ℕ → Bool
told (X t a b) row o = o
told (H t a) row o = o
told (P e a) row o = o
told (M w n) row o = put n (row w.number) o

same_bit : (b : Bool) → beq b b ≡ true
same_bit true = refl
same_bit false = refl

told_agrees : (s : Step) (row : Row) (o : ℕ → Bool) → agrees (told s row o) s row ≡ true
told_agrees (X t a b) row o = refl
told_agrees (H t a) row o = refl
told_agrees (P e a) row o = refl
told_agrees (M w n) row o = ap (beq (row w.number)) (put-same n (row w.number) o) ∙ same_bit (row w.number)

-- a measure with a lesser number agrees as before
told_keeps : (s z : Step) (row other : Row) (o : ℕ → Bool) (a b : ℕ) → HasNumber a s → HasNumber b z → (is_m z ≡ true → b < a) → agrees (told s row o) z other ≡ agrees o z other
told_keeps (X t f g) z row other o a b p q less = refl
told_keeps (H t f) z row other o a b p q less = refl
told_keeps (P e f) z row other o a b p q less = refl
told_keeps (M w n) (X t f g) row other o a b p q less = refl
told_keeps (M w n) (H t f) row other o a b p q less = refl
told_keeps (M w n) (P e f) row other o a b p q less = refl
told_keeps (M w n) (M v m) row other o a b p q less =
    let first : n ≡ a = p in
    let second : m ≡ b = q in
    let l : b < a = less refl in
    ap (beq (other v.number)) (put-other n (row w.number) o m (λ e. absurd (omega (arith, first, second, l, e))))

abbrev one_if : Bool → ℕ
one_if b = cond b 1 0

module _ (steps : List Step) where
  -- how many measures there are before a place
  rises : (s k : ℕ) → k < s → s ≤ length steps → count_measures (take k steps) + one_if (is_m (step_number steps k)) ≤ count_measures (take s steps)
  rises zero k lt le = absurd (omega (arith, lt))
  rises (suc s) k lt le = by (rises s k) (eq-or-lt_of_le (le_of_suc-le-suc lt))
    where
      more : count_measures (take (suc s) steps) ≡ count_measures (take s steps) + one_if (is_m (step_number steps s))
      more = ap (λ n. count_measures (take n steps)) (sym (add-one s)) ∙ sum_by_more (λ x. one_if (is_m x)) steps s no_step (omega (arith, le))

      last : count_measures (take s steps) + one_if (is_m (step_number steps s)) ≤ count_measures (take (suc s) steps)
      last = subst (λ n. count_measures (take s steps) + one_if (is_m (step_number steps s)) ≤ n) (sym more) (le_refl _)

      by : (k < s → s ≤ length steps → count_measures (take k steps) + one_if (is_m (step_number steps k)) ≤ count_measures (take s steps)) → (k ≡ s) ⊎ (k < s)
          → count_measures (take k steps) + one_if (is_m (step_number steps k)) ≤ count_measures (take (suc s) steps)
      by ih (inl e) = subst (λ x. count_measures (take x steps) + one_if (is_m (step_number steps x)) ≤ count_measures (take (suc s) steps)) (sym e) last
      by ih (inr l) =
          let before : count_measures (take k steps) + one_if (is_m (step_number steps k)) ≤ count_measures (take s steps) = ih l (omega (arith, le)) in
          omega (arith, before, last)

  fewer_before : (s k : ℕ) → k < s → s ≤ length steps → is_m (step_number steps k) ≡ true → count_measures (take k steps) < count_measures (take s steps)
  fewer_before s k lt le m =
      let all : count_measures (take k steps) + one_if (is_m (step_number steps k)) ≤ count_measures (take s steps) = rises s k lt le in
      let one : one_if (is_m (step_number steps k)) ≡ 1 = ap one_if m in
      omega (arith, all, one)

all_below_by : (n : ℕ) (f : ℕ → Bool) → ((k : ℕ) → k < n → f k ≡ true) → all_below n f ≡ true
all_below_by zero f h = refl
all_below_by (suc n) f h = ap₂ ◌&&◌ (all_below_by n f (λ k lt. h k (lt_trans lt (lt-suc_self n)))) (h n (lt-suc_self n))

module _ (f : FlatForm) (input : Row) (c : ℕ → Bool) (ok : IsFlat f) where
  -- the bits that the measures among the first s steps of the path tell
  abbrev outcome_after : ℕ → ℕ → Bool
  outcome_after zero = λ n. false
  outcome_after (suc s) = told (step_number f.steps s) (row_at f.steps input c s) (outcome_after s)

  agrees_after : (s : ℕ) → s ≤ length f.steps → (k : ℕ) → k < s → agrees (outcome_after s) (step_number f.steps k) (row_at f.steps input c k) ≡ true
  agrees_after zero le k lt = absurd (omega (arith, lt))
  agrees_after (suc s) le k lt = by (agrees_after s (omega (arith, le)) k) (eq-or-lt_of_le (le_of_suc-le-suc lt))
    where
      by : (k < s → agrees (outcome_after s) (step_number f.steps k) (row_at f.steps input c k) ≡ true) → (k ≡ s) ⊎ (k < s)
          → agrees (outcome_after (suc s)) (step_number f.steps k) (row_at f.steps input c k) ≡ true
      by ih (inl e) =
          subst (λ x. agrees (outcome_after (suc s)) (step_number f.steps x) (row_at f.steps input c x) ≡ true) (sym e)
          (told_agrees (step_number f.steps s) (row_at f.steps input c s) (outcome_after s))
      by ih (inr l) =
          told_keeps (step_number f.steps s) (step_number f.steps k) (row_at f.steps input c s) (row_at f.steps input c k) (outcome_after s) (count_measures (take s f.steps)) (count_measures (take k f.steps))
          (ok.numbered (step_id s) (omega (arith, le))) (ok.numbered (step_id k) (omega (arith, le, l))) (fewer_before f.steps s k l (omega (arith, le)))
          ∙ ih l

pub each_path_has_an_outcome : EachPathHasAnOutcome
each_path_has_an_outcome f input c ok = (
  outcome_after f input c ok (length f.steps),
  all_below_by (length f.steps) (λ s. agrees (outcome_after f input c ok (length f.steps)) (step_number f.steps s) (row_at f.steps input c s))
      (agrees_after f input c ok (length f.steps) (le_refl (length f.steps))),
)
