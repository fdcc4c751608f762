-- A flat form keeps its ends.
use Rattle.std.proofs.Common.{◌≡◌, ℕ, ◌+◌, ◌*◌, ◌<◌, ◌≤◌, true, false, cond, length, get_or, take, drop, refl, ap, ◌∙◌, inl, inr, arith, length-drop}
use Rattle.std.proofs.lemmas.Bool.{cases_eq}
use Rattle.std.proofs.lemmas.List.{get_or-drop}
use Rattle.std.proofs.lemmas.List.Sums.{sum_by-le, sum_by-take-drop}
use Rattle.std.proofs.lemmas.List.Elements.{All-from_get_or}
use Rattle.flat_core.specs.declared.step.Step.{Step}
use Rattle.flat_core.specs.declared.step.Step.TheVariants.{X, H, P, M}
use Rattle.flat_core.specs.declared.step.End.{End}
use Rattle.flat_core.specs.declared.step.End.TheVariants.{Output, Dropped, Measured, Zeroed}
use Rattle.flat_core.specs.declared.step.WireId.{WireId}
use Rattle.flat_core.specs.declared.step.StepId.{StepId}
use Rattle.flat_core.specs.Form.{FlatForm}
use Rattle.flat_core.specs.Label.{changes, step_id, step_at, end_of, no_step, top, label_after, label_before}
use Rattle.flat_core.specs.Ends.{is_dropped, dropped, undone_step, measures}
use Rattle.flat_core.specs.Sound.{is_x, IsFlat}
use Rattle.flat_core.specs.Laws.{FlatKeepsEnds}
use Rattle.flat_core.proofs.Labels.{same_wire_is}

pub dropped_end : (e : End) → is_dropped e ≡ true → e ≡ Dropped
dropped_end Output d = cc
dropped_end Dropped d = refl
dropped_end Measured d = cc
dropped_end Zeroed d = cc

undone_x : (f : FlatForm) (w : WireId) (s : Step) → changes w s ≡ true → is_x s ≡ true → dropped f w ≡ true → undone_step f s ≡ true
undone_x f w (X t a b) c x d = ap (dropped f) (same_wire_is t w c) ∙ d
undone_x f w (H t a) c x d = cc
undone_x f w (P e a) c x d = cc
undone_x f w (M v n) c x d = cc

-- what measures a wire does not change one
pub measure_changes : (w v : WireId) (s : Step) → measures w s ≡ true → changes v s ≡ false
measure_changes w v (X t a b) m = cc
measure_changes w v (H t a) m = cc
measure_changes w v (P e a) m = cc
measure_changes w v (M x n) m = refl

module _ (f : FlatForm) (ok : IsFlat f) (s : StepId) (w : WireId) (there : s.number < length f.steps) (m : measures w (step_at f s) ≡ true) where
  later : (k : ℕ) → k < length (drop s.number f.steps) → changes w (get_or f.steps (s.number + k) no_step) ≡ false
  later k h = elim (cases_eq k 0) [
    | inl e ↦ ap (λ (n : ℕ). changes w (get_or f.steps n no_step)) (let z : s.number + k ≡ s.number = omega arith in z) ∙ measure_changes w w (step_at f s) m
    | inr n ↦ let short = length-drop s.number f.steps in ok.m_is_last s (step_id (s.number + k)) w (omega arith) (omega arith) m
  ]

  rest : label_after (drop s.number f.steps) w ≡ 0
  rest =
      let l : label_after (drop s.number f.steps) w ≤ length (drop s.number f.steps) * 0 =
      sum_by-le (λ x. cond (changes w x) 1 0) 0 (drop s.number f.steps)
      (All-from_get_or (λ x. cond (changes w x) 1 0 ≤ 0) (drop s.number f.steps) no_step
      (λ k h. let e : changes w (get_or (drop s.number f.steps) k no_step) ≡ false = ap (changes w) (get_or-drop s.number f.steps k no_step) ∙ later k h in rw e (omega arith))) in
      omega arith

  at_top : label_before f s w ≡ top f w
  at_top =
      let whole : label_after (take s.number f.steps) w + label_after (drop s.number f.steps) w ≡ top f w = sum_by-take-drop (λ x. cond (changes w x) 1 0) f.steps s.number in
      let none = rest in
      omega arith

pub keeps_ends : FlatKeepsEnds
keeps_ends f ok = record {
  dropped_by_x = λ s w h c d. undone_x f w (step_at f s) c (ok.dropped_has_x s w h (dropped_end (end_of f w) d) c) d;
  measured_at_top = λ s w h m. at_top f ok s w h m;
}
