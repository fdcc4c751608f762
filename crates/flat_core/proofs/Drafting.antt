-- What holds of every draft is kept by each change of it.
use Rattle.std.proofs.Common.{◌≡◌, ℕ, ◌+◌, ◌<◌, ◌⊎◌, Bool, true, [], ◌∷◌, ◌++◌, length, take, refl, sym, ap, ◌∙◌, subst, inl, inr, arith, length-append, length-set}
use Rattle.std.proofs.lemmas.Bool.{cases_Bool, cases_lt}
use Rattle.std.proofs.lemmas.List.{get_or_append_left, get_or_push, take-append-le}
use Rattle.std.proofs.Math.Seq.{take-append_seam}
use Rattle.flat_core.specs.declared.step.Step.{Step}
use Rattle.flat_core.specs.declared.step.End.{End}
use Rattle.flat_core.specs.declared.step.End.TheVariants.{Dropped}
use Rattle.flat_core.specs.declared.step.WireId.{WireId}
use Rattle.flat_core.specs.declared.step.StepId.{StepId}
use Rattle.flat_core.specs.Form.{WireForm, DraftForm}
use Rattle.flat_core.specs.Label.{wire_in, step_in, no_step}
use Rattle.flat_core.specs.Sound.{most_steps, most_wires, most_outcomes, is_m, count_measures}
use Rattle.flat_core.specs.Drafts.{empty_draft, with_wire, with_step, with_end, first_steps, IsNextStep, IsDraft}
use Rattle.flat_core.proofs.Labels.{count_measures-push}
use Rattle.flat_core.proofs.NextSteps.{next_step_same, input_with_wire, input_with_end}

pub draft_empty : IsDraft empty_draft
draft_empty = record {
  steps_follow = λ s h. absurd (omega arith);
  few_steps = omega arith;
  as_many_lines = refl;
  few_wires = omega arith;
  few_outcomes = omega arith;
}

pub draft_wire : (d : DraftForm) (input : Bool) → IsDraft d → length d.wires < most_wires → IsDraft (with_wire d input)
draft_wire d input ok room =
    let new : WireForm = record { input = input; ending = Dropped } in
    let longer : length (d.wires ++ new ∷ []) ≡ length d.wires + 1 = length-append d.wires (new ∷ []) in
    record {
      steps_follow = λ s h. next_step_same (first_steps d s.number) (first_steps (with_wire d input) s.number) (step_in d.steps s) refl (omega arith) (λ w k. input_with_wire d.wires (new ∷ []) w k) (ok.steps_follow s h);
      few_steps = ok.few_steps;
      as_many_lines = ok.as_many_lines;
      few_wires = omega arith;
      few_outcomes = ok.few_outcomes;
    }

pub draft_end : (d : DraftForm) (v : WireId) (ending : End) → IsDraft d → v.number < length d.wires → IsDraft (with_end d v ending)
draft_end d v ending ok there =
    let new : WireForm = record { input = (wire_in d.wires v).input; ending = ending } in
    let same = length-set d.wires v.number new in
    record {
      steps_follow = λ s h. next_step_same (first_steps d s.number) (first_steps (with_end d v ending) s.number) (step_in d.steps s) refl (omega arith) (λ w k. input_with_end d.wires v ending w there) (ok.steps_follow s h);
      few_steps = ok.few_steps;
      as_many_lines = ok.as_many_lines;
      few_wires = omega arith;
      few_outcomes = ok.few_outcomes;
    }

-- the step last added, or one from before
step_cases : (d : DraftForm) (step : Step) (s : StepId) → s.number < length (d.steps ++ step ∷ []) → (s.number < length d.steps) ⊎ (s.number ≡ length d.steps)
step_cases d step s h =
    let longer = length-append d.steps (step ∷ []) in
    elim (cases_lt s.number (length d.steps)) [
      | inl l ↦ inl l
      | inr l ↦ inr (omega arith)
    ]

pub draft_step : (d : DraftForm) (step : Step) (line : ℕ) → IsDraft d → IsNextStep d step → (is_m step ≡ true → count_measures d.steps < most_outcomes) → length d.steps < most_steps → IsDraft (with_step d step line)
draft_step d step line ok next few room =
    let longer = length-append d.steps (step ∷ []) in
    let longer_lines = length-append d.lines (line ∷ []) in
    let as_many = ok.as_many_lines in
    record {
      steps_follow = λ s h. elim (step_cases d step s h) [
        | inl l ↦
            let read : step_in (d.steps ++ step ∷ []) s ≡ step_in d.steps s = get_or_append_left d.steps (step ∷ []) no_step s.number l in
            let cut : take s.number (d.steps ++ step ∷ []) ≡ take s.number d.steps = take-append-le s.number d.steps (step ∷ []) (omega arith) in
            subst (IsNextStep (first_steps (with_step d step line) s.number)) (sym read) (next_step_same (first_steps d s.number) (first_steps (with_step d step line) s.number) (step_in d.steps s) cut (omega arith) (λ w k. refl) (ok.steps_follow s l))
        | inr e ↦
            let read : step_in (d.steps ++ step ∷ []) s ≡ step = get_or_push d.steps step no_step s.number (sym e) in
            let cut : take s.number (d.steps ++ step ∷ []) ≡ d.steps = ap (λ (n : ℕ). take n (d.steps ++ step ∷ [])) e ∙ take-append_seam d.steps (step ∷ []) in
            subst (IsNextStep (first_steps (with_step d step line) s.number)) (sym read) (next_step_same d (first_steps (with_step d step line) s.number) step cut (omega arith) (λ w k. refl) next)
      ];
      few_steps = omega arith;
      as_many_lines = omega arith;
      few_wires = ok.few_wires;
      few_outcomes =
          let more = count_measures-push d.steps step in
          let before = ok.few_outcomes in
          elim (cases_Bool (is_m step)) [
            | inl m ↦ let n = few m in let more' = rw m at more in omega arith
            | inr m ↦ let more' = rw m at more in omega arith
          ];
    }
