-- Where wires stand when a step may be done or undone, by labels step by step; and what a flat form gives for it.
use Rattle.std.proofs.Common.{◌≡◌, ◌≢◌, ℕ, suc, ◌+◌, ◌<◌, true, false, cond, length, Contains, Option, Some, None, IfSome, refl, sym, ◌∙◌, ap, inl, inr, add-one, add-zero}
use Rattle.std.proofs.lemmas.Bool.{cases_Bool}
use Rattle.flat_core.specs.declared.step.Step.{Step}
use Rattle.flat_core.specs.declared.step.Step.TheVariants.{X, H, P, M}
use Rattle.flat_core.specs.declared.step.Lit.{Lit}
use Rattle.flat_core.specs.declared.step.WireId.{WireId}
use Rattle.flat_core.specs.declared.step.StepId.{StepId}
use Rattle.flat_core.specs.Form.{FlatForm}
use Rattle.flat_core.specs.Label.{changes, used, step_at, label_before, wire_of, WiresDiffer}
use Rattle.flat_core.specs.Ends.{undone_step}
use Rattle.flat_core.specs.Sound.{IsFlat}
use Rattle.flat_mean.specs.Row.{is_h}
use Rattle.flat_mean.proofs.Values.{label_at, label_at-is}
use Rattle.move_plan.specs.Progress.{Progress, StandsAt, StepStands}

-- the wires that a step names are not freed, and at the labels that they have before step n
pub record AtLabels (f : FlatForm) (p : Progress) (s : StepId) (n : ℕ) : Type 0 where
  pub uses : (w : WireId) → Contains (used (step_at f s)) w → StandsAt p w (label_at f.steps n w.number)
  pub changed : (w : WireId) → changes w (step_at f s) ≡ true → StandsAt p w (label_at f.steps n w.number)

pub label_before-at : (f : FlatForm) (s : StepId) (w : WireId) → label_before f s w ≡ label_at f.steps s.number w.number
label_before-at f s w = sym (label_at-is f.steps s.number w.number)

-- at the label that is equal
pub stands_at : (p : Progress) (w : WireId) (i j : ℕ) → i ≡ j → StandsAt p w i → StandsAt p w j
stands_at p w i j e st = record { at = st.at ∙ e; kept = st.kept }

label_kept : (f : FlatForm) (s : StepId) (w : WireId) → changes w (step_at f s) ≡ false → label_at f.steps (suc s.number) w.number ≡ label_at f.steps s.number w.number
label_kept f s w c = ap (λ b. label_at f.steps s.number w.number + cond b 1 0) c ∙ add-zero (label_at f.steps s.number w.number)

pub label_raised : (f : FlatForm) (s : StepId) (w : WireId) → changes w (step_at f s) ≡ true → label_at f.steps (suc s.number) w.number ≡ suc (label_at f.steps s.number w.number)
label_raised f s w c = ap (λ b. label_at f.steps s.number w.number + cond b 1 0) c ∙ add-one (label_at f.steps s.number w.number)

module _ (f : FlatForm) (p : Progress) (s : StepId) where
  -- before the step
  pub at_before : StepStands f p s (λ n. n) → AtLabels f p s s.number
  at_before st = record {
    uses = λ w c. stands_at p w (label_before f s w) (label_at f.steps s.number w.number) (label_before-at f s w) (st.uses w c);
    changed = λ w c. stands_at p w (label_before f s w) (label_at f.steps s.number w.number) (label_before-at f s w) (st.changed w c);
  }

  -- after it
  pub at_after : StepStands f p s suc → AtLabels f p s (suc s.number)
  at_after st = record { uses = uses; changed = changed }
    where
      changed : (w : WireId) → changes w (step_at f s) ≡ true → StandsAt p w (label_at f.steps (suc s.number) w.number)
      changed w c = stands_at p w (suc (label_before f s w)) (label_at f.steps (suc s.number) w.number) (ap suc (label_before-at f s w) ∙ sym (label_raised f s w c)) (st.changed w c)

      uses : (w : WireId) → Contains (used (step_at f s)) w → StandsAt p w (label_at f.steps (suc s.number) w.number)
      uses w c = elim (cases_Bool (changes w (step_at f s))) [
        | inl t ↦ changed w t
        | inr t ↦ stands_at p w (label_before f s w) (label_at f.steps (suc s.number) w.number) (label_before-at f s w ∙ sym (label_kept f s w t)) (st.uses w c)
      ]

-- a control is not the target of its step
abbrev pub IsOther : WireId → Option Lit → Type 0
IsOther w o = IfSome o (λ l. w.number ≢ l.wire.number)

abbrev pub ControlsDiffer : Step → Type 0
ControlsDiffer (X t a b) = IsOther t a × IsOther t b
ControlsDiffer (H t a) = IsOther t a
ControlsDiffer (P e a) = Unit {0}
ControlsDiffer (M w n) = Unit {0}

other_lit : (w : WireId) (o : Option Lit) → IfSome (wire_of o) (λ v. w.number ≢ v.number) → IsOther w o
other_lit w None h = tt
other_lit w (Some l) h = h

controls_differ : (s : Step) → WiresDiffer s → ControlsDiffer s
controls_differ (X t a b) h = (other_lit t a h.0, other_lit t b h.1)
controls_differ (H t a) h = other_lit t a h.0
controls_differ (P e a) h = tt
controls_differ (M w n) h = tt

pub flat_differ : (f : FlatForm) → IsFlat f → (s : StepId) → s.number < length f.steps → ControlsDiffer (step_at f s)
flat_differ f ok s h = controls_differ (step_at f s) (ok.differ s h)

-- a step that is undone again is no H and no M
pub undone_not_h : (f : FlatForm) (s : Step) → undone_step f s ≡ true → is_h s ≡ false
undone_not_h f (X t a b) u = refl
undone_not_h f (H t a) u = cc
undone_not_h f (P e a) u = refl
undone_not_h f (M w n) u = refl

pub h_lasts : (f : FlatForm) (s : Step) → is_h s ≡ true → undone_step f s ≡ false
h_lasts f (X t a b) h = cc
h_lasts f (H t a) h = refl
h_lasts f (P e a) h = cc
h_lasts f (M w n) h = cc
