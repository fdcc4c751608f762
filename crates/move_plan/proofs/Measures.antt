-- The measure of a Measured wire, and the wires that no step names.
use Rattle.std.proofs.Common.{◌≡◌, ℕ, zero, suc, ◌<◌, ◌≤◌, Bool, true, false, cond, List, [], ◌∷◌, length, take_all, refl, sym, ◌∙◌, ap, arith, suc-le-suc, le_of_suc-le-suc, le_refl, zero-le}
use Rattle.std.proofs.lemmas.List.{get_or_past}
use Rattle.flat_core.specs.declared.step.Step.{Step}
use Rattle.flat_core.specs.declared.step.Step.TheVariants.{X, H, P, M}
use Rattle.flat_core.specs.declared.step.End.TheVariants.{Output}
use Rattle.flat_core.specs.declared.step.WireId.{WireId}
use Rattle.flat_core.specs.declared.step.StepId.{StepId}
use Rattle.flat_core.specs.Form.{FlatForm, WireForm}
use Rattle.flat_core.specs.Label.{step_id, no_wire, step_at, end_of, top, label_after}
use Rattle.flat_core.specs.Ends.{measures}
use Rattle.flat_core.specs.Sound.{IsFlat}
use Rattle.flat_core.proofs.Labels.{label_after-none}
use Rattle.flat_core.proofs.Kept.{keeps_ends}
use Rattle.flat_mean.specs.Path.{step_number}
use Rattle.flat_mean.proofs.Values.{label_at, label_at-is}
use Rattle.move_plan.specs.Effect.{number_of}
use Rattle.move_plan.proofs.Standing.{label_before-at}

-- the number of the outcome bit of a measuring step, 0 for another one
abbrev pub bit_of : Step → ℕ
bit_of (X t a b) = 0
bit_of (H t a) = 0
bit_of (P e a) = 0
bit_of (M w n) = n

number_of-cons : (s : Step) (ss : List Step) (w : WireId) → number_of (s ∷ ss) w ≡ cond (measures w s) (bit_of s) (number_of ss w)
number_of-cons (X t a b) ss w = refl
number_of-cons (H t a) ss w = refl
number_of-cons (P e a) ss w = refl
number_of-cons (M v n) ss w = refl

suc_injective : {a b : ℕ} → suc a ≡ suc b → a ≡ b
suc_injective h = omega (arith, h)

-- the number that is found is that of the one measure
number_of-measure : (steps : List Step) (s : ℕ) (w : WireId) → s < length steps → measures w (step_number steps s) ≡ true
    → ((k : ℕ) → k < length steps → measures w (step_number steps k) ≡ true → k ≡ s) → number_of steps w ≡ bit_of (step_number steps s)
number_of-measure [] s w lt m only = absurd (omega arith)
number_of-measure (x ∷ xs) zero w lt m only = number_of-cons x xs w ∙ ap (λ b. cond b (bit_of x) (number_of xs w)) m
number_of-measure (x ∷ xs) (suc s) w lt m only =
    number_of-cons x xs w
    ∙ ap (λ b. cond b (bit_of x) (number_of xs w)) (other (measures w x) refl)
    ∙ number_of-measure xs s w (le_of_suc-le-suc lt) m (λ k kl i. suc_injective (only (suc k) (suc-le-suc kl) i))
  where
    other : (b : Bool) → measures w x ≡ b → b ≡ false
    other true e = let z : 0 ≡ suc s = only 0 (suc-le-suc zero-le) e in absurd (omega (arith, z))
    other false e = refl

module _ (f : FlatForm) (ok : IsFlat f) where
  pub number_is : (s : StepId) (w : WireId) → s.number < length f.steps → measures w (step_at f s) ≡ true → number_of f.steps w ≡ bit_of (step_at f s)
  number_is s w lt m = number_of-measure f.steps s.number w lt m (λ k kl i. ap (λ (x : StepId). x.number) (ok.one_m (step_id k) s w kl lt i m))

  -- after its measure a wire keeps its label
  pub measured_last : (s : StepId) (w : WireId) → s.number < length f.steps → measures w (step_at f s) ≡ true → label_at f.steps s.number w.number ≡ top f w
  measured_last s w lt m = sym (label_before-at f s w) ∙ (keeps_ends f ok).measured_at_top s w lt m

  -- a wire that is not there ends as an Output, and has label 0
  pub end_past : (w : WireId) → length f.wires ≤ w.number → end_of f w ≡ Output
  end_past w past = ap (λ (x : WireForm). x.ending) (get_or_past f.wires w.number no_wire past)

  pub top_past : (w : WireId) → length f.wires ≤ w.number → top f w ≡ 0
  top_past w past = label_after-none f.steps (length f.wires) ok.in_range w past

-- the top is the label after all steps
pub top-at : (f : FlatForm) (w : WireId) → label_at f.steps (length f.steps) w.number ≡ top f w
top-at f w = label_at-is f.steps (length f.steps) w.number ∙ ap (λ (xs : List Step). label_after xs w) (take_all (length f.steps) f.steps (le_refl (length f.steps)))
