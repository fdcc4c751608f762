-- A path that is possible through the steps done goes on to a path that is possible through all.
use Rattle.std.proofs.Common.{◌≡◌, ℕ, zero, suc, ◌<◌, ◌≤◌, ◌⊎◌, inl, inr, Bool, true, false, cond, not, ◌&&◌, length, refl, sym, ◌∙◌, ap, ap₂, subst, arith, eq-or-lt_of_le, le_of_suc-le-suc, le_refl}
use Rattle.std.specs.Bool.{beq}
use Rattle.flat_core.specs.declared.step.Step.{Step}
use Rattle.flat_core.specs.declared.step.Step.TheVariants.{X, H, P, M}
use Rattle.flat_core.specs.declared.step.End.TheVariants.{Zeroed}
use Rattle.flat_core.specs.declared.step.WireId.{WireId}
use Rattle.flat_core.specs.Form.{FlatForm}
use Rattle.flat_core.specs.Label.{step_id, end_of, top}
use Rattle.flat_mean.specs.Row.{Row, put, holds, is_h, is_possible}
use Rattle.flat_mean.specs.Path.{step_number, row_at, choices_at, all_below, possible_path}
use Rattle.flat_mean.proofs.Sums.{put-same, put-other}
use Rattle.flat_mean.proofs.Below.{all_below_at, and_left}
use Rattle.flat_mean.proofs.Values.{value_at, value-row}
use Rattle.flat_mean.proofs.Choices.{choices_mono}
use Rattle.flat_mean.proofs.Local.{possible_same, or_right}
use Rattle.flat_mean.proofs.Early.{Below, fewer, row_early, possible_early}
use Rattle.move_plan.specs.Progress.{Progress}
use Rattle.move_plan.specs.Laws.{ZeroedAreZero}
use Rattle.move_plan.proofs.Fixed.{Same, Fixed}
use Rattle.move_plan.proofs.Prefix.{done_at, fits, alive}
use Rattle.move_plan.proofs.Measures.{top-at}

-- the choice bit with which an H step is possible whether or not its control holds
abbrev pub keep_bit : Step → Row → Bool
keep_bit (X t a b) row = false
keep_bit (H t a) row = row t.number
keep_bit (P e a) row = false
keep_bit (M w n) row = false

beq_self : (a : Bool) → beq a a ≡ true
beq_self true = refl
beq_self false = refl

keep_possible : (s : Step) (r : Row) → is_possible s (keep_bit s r) r ≡ true
keep_possible (X t a b) r = refl
keep_possible (H t a) r = or_right (holds r a) _ (beq_self (r t.number))
keep_possible (P e a) r = refl
keep_possible (M w n) r = refl

other_possible : (s : Step) (k : Bool) (r : Row) → is_h s ≡ false → is_possible s k r ≡ true
other_possible (X t a b) k r h = refl
other_possible (H t a) k r h = absurd (cc)
other_possible (P e a) k r h = refl
other_possible (M w n) k r h = refl

all_below_intro : (n : ℕ) (f : ℕ → Bool) → ((k : ℕ) → k < n → f k ≡ true) → all_below n f ≡ true
all_below_intro zero f h = refl
all_below_intro (suc n) f h = ap₂ ◌&&◌ (all_below_intro n f (λ k lt. h k (omega arith))) (h n (omega arith))

-- the choice bits with those of the steps not done, below step s, filled in
abbrev fill : FlatForm → Row → Progress → (ℕ → Bool) → ℕ → ℕ → Bool
fill f input p c zero = c
fill f input p c (suc s) = cond (is_h (step_number f.steps s) && not (done_at p s)) (put (choices_at f.steps s) (keep_bit (step_number f.steps s) (row_at f.steps input (fill f input p c s) s)) (fill f input p c s)) (fill f input p c s)

module _ (f : FlatForm) (input : Row) (outcome : ℕ → Bool) (p : Progress) (taken c : ℕ → Bool) (fx : Fixed f input p taken) (live : alive f input outcome p c ≡ true) where
  -- the bits taken stay
  kept : (s : ℕ) → s ≤ length f.steps → Same taken (fill f input p c s) c
  kept zero le = record { at = λ j t. refl }
  kept (suc s) le = by (is_h (step_number f.steps s)) (done_at p s) refl refl (kept s (omega arith))
    where
      by : (h d : Bool) → is_h (step_number f.steps s) ≡ h → done_at p s ≡ d → Same taken (fill f input p c s) c
          → Same taken (cond (h && not d) (put (choices_at f.steps s) (keep_bit (step_number f.steps s) (row_at f.steps input (fill f input p c s) s)) (fill f input p c s)) (fill f input p c s)) c
      by true true eh ed ih = ih
      by true false eh ed ih =
          let off : taken (choices_at f.steps s) ≡ false = fx.number (step_id s) le eh ∙ ed in
          record { at = λ j t. put-other (choices_at f.steps s) _ (fill f input p c s) j (λ g. let no : true ≡ false = sym t ∙ (ap taken g ∙ off) in (cc)) ∙ ih.at j t }
      by false d eh ed ih = ih

  grows : (s : ℕ) → Below (choices_at f.steps s) (fill f input p c (suc s)) (fill f input p c s)
  grows s = record { at = λ j lt. by (is_h (step_number f.steps s) && not (done_at p s)) j lt }
    where
      by : (b : Bool) (j : ℕ) → j < choices_at f.steps s → cond b (put (choices_at f.steps s) (keep_bit (step_number f.steps s) (row_at f.steps input (fill f input p c s) s)) (fill f input p c s)) (fill f input p c s) j ≡ fill f input p c s j
      by true j lt = put-other (choices_at f.steps s) _ (fill f input p c s) j (omega arith)
      by false j lt = refl

  abbrev can : (ℕ → Bool) → ℕ → Bool
  can d k = is_possible (step_number f.steps k) (d (choices_at f.steps k)) (row_at f.steps input d k)

  filled : (s : ℕ) → s ≤ length f.steps → (k : ℕ) → k < s → can (fill f input p c s) k ≡ true
  filled zero le k lt = absurd (omega arith)
  filled (suc s) le k lt = by (filled s (omega arith)) (eq-or-lt_of_le (le_of_suc-le-suc lt))
    where
      row : row_at f.steps input (fill f input p c (suc s)) s ≡ row_at f.steps input (fill f input p c s) s
      row = row_early f.steps input _ _ s (grows s)

      here : (h d : Bool) → is_h (step_number f.steps s) ≡ h → done_at p s ≡ d
          → is_possible (step_number f.steps s) (cond (h && not d) (put (choices_at f.steps s) (keep_bit (step_number f.steps s) (row_at f.steps input (fill f input p c s) s)) (fill f input p c s)) (fill f input p c s) (choices_at f.steps s)) (row_at f.steps input (fill f input p c s) s) ≡ true
      here true true eh ed =
          let same = kept s (omega arith) in
          let was : can c s ≡ true = and_left _ _ (ap (λ b. cond b (fits f input outcome c s) true) (sym ed) ∙ all_below_at (length f.steps) _ s le live) in
          possible_same (step_number f.steps s) _ _ _ (fx.settled (fill f input p c s) c same (step_id s) le ed)
          ∙ (ap (λ b. is_possible (step_number f.steps s) b (row_at f.steps input c s)) (same.at (choices_at f.steps s) (fx.number (step_id s) le eh ∙ ed)) ∙ was)
      here true false eh ed =
          ap (λ b. is_possible (step_number f.steps s) b (row_at f.steps input (fill f input p c s) s)) (put-same (choices_at f.steps s) _ (fill f input p c s)) ∙ keep_possible (step_number f.steps s) _
      here false d eh ed = other_possible (step_number f.steps s) _ _ eh

      by : ((k : ℕ) → k < s → can (fill f input p c s) k ≡ true) → (k ≡ s) ⊎ (k < s) → can (fill f input p c (suc s)) k ≡ true
      by ih (inl e) =
          subst (λ x. can (fill f input p c (suc s)) x ≡ true) (sym e)
          (ap (λ r. is_possible (step_number f.steps s) (fill f input p c (suc s) (choices_at f.steps s)) r) row ∙ here (is_h (step_number f.steps s)) (done_at p s) refl refl)
      by ih (inr l) =
          possible_early f.steps input _ _ k (fewer (choices_at f.steps (suc k)) (choices_at f.steps s) _ _ (choices_mono f.steps s (suc k) l) (grows s)) ∙ ih k l

  -- a Zeroed wire at its top is 0
  pub zeroed_zero : ZeroedAreZero f input → (w : WireId) → end_of f w ≡ Zeroed → p.label w ≡ top f w → value_at f.steps input c (length f.steps) w.number (p.label w) ≡ false
  zeroed_zero zeros w ez at_top =
      let n = length f.steps in
      let d = fill f input p c n in
      let whole : possible_path f.steps input d ≡ true = all_below_intro n (can d) (filled n (le_refl n)) in
      sym (fx.value d c (kept n (le_refl n)) w)
      ∙ (value-row f.steps input d n n w.number (p.label w) (le_refl n) (top-at f w ∙ sym at_top) ∙ zeros.zero d whole w ez)
