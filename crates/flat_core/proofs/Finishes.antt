-- A draft becomes a flat form where its ends and the lists fit.
use Rattle.std.proofs.Common.{◌≡◌, ◌<◌, true, false, length, get_or, take, Option, Some, IfSome, refl, ap, ◌∙◌, subst, inl, inr, arith, length-take-le}
use Rattle.std.proofs.lemmas.Bool.{cases_Bool, cases_order, both_ways}
use Rattle.std.proofs.lemmas.List.{get_or-take}
use Rattle.std.proofs.lemmas.List.Folds.{list_any_at}
use Rattle.flat_core.specs.declared.step.WireId.{WireId}
use Rattle.flat_core.specs.declared.step.StepId.{StepId}
use Rattle.flat_core.specs.Form.{DraftForm}
use Rattle.flat_core.specs.Label.{changes, step_id, step_in, main_wire, no_step}
use Rattle.flat_core.specs.Ends.{measures}
use Rattle.flat_core.specs.Drafts.{is_measured, IsDraft}
use Rattle.flat_core.specs.Laws.{DraftsBecomeFlat}
use Rattle.flat_core.proofs.Labels.{main_of_changed, main_of_measured}

-- no step changes or measures a wire after its measure
module _ (d : DraftForm) (ok : IsDraft d) (s t : StepId) (w : WireId) (before : s.number < t.number) (there : t.number < length d.steps) (m : measures w (step_in d.steps s) ≡ true) where
  pub not_main : main_wire (step_in d.steps t) ≡ Some w → ⊥
  not_main e =
      let fresh : is_measured (take t.number d.steps) w ≡ false = subst (λ (o : Option WireId). IfSome o (λ v. is_measured (take t.number d.steps) v ≡ false)) e (ok.steps_follow t there).unmeasured in
      let short = length-take-le t.number d.steps (omega arith) in
      let read : measures w (get_or (take t.number d.steps) s.number no_step) ≡ true = ap (measures w) (get_or-take t.number d.steps s.number no_step before) ∙ m in
      both_ways (is_measured (take t.number d.steps) w) fresh (list_any_at (measures w) (take t.number d.steps) s.number no_step (omega arith) read)

one_measure : (d : DraftForm) → IsDraft d → (s t : StepId) (w : WireId) → s.number < length d.steps → t.number < length d.steps → measures w (step_in d.steps s) ≡ true → measures w (step_in d.steps t) ≡ true → s ≡ t
one_measure d ok s t w hs ht ms mt = elim (cases_order s.number t.number) [
  | inl e ↦ ap step_id e
  | inr o ↦ elim o [
    | inl l ↦ absurd (not_main d ok s t w l ht ms (main_of_measured (step_in d.steps t) w mt))
    | inr g ↦ absurd (not_main d ok t s w g hs mt (main_of_measured (step_in d.steps s) w ms))
  ]
]

last_measure : (d : DraftForm) → IsDraft d → (s t : StepId) (w : WireId) → s.number < t.number → t.number < length d.steps → measures w (step_in d.steps s) ≡ true → changes w (step_in d.steps t) ≡ false
last_measure d ok s t w l ht ms = elim (cases_Bool (changes w (step_in d.steps t))) [
  | inl c ↦ absurd (not_main d ok s t w l ht ms (main_of_changed (step_in d.steps t) w c))
  | inr c ↦ c
]

pub drafts_become_flat : DraftsBecomeFlat
drafts_become_flat d ins outs ok ends = record {
  in_range = λ s h. (ok.steps_follow s h).there;
  differ = λ s h. (ok.steps_follow s h).differ;
  few_steps = ok.few_steps;
  as_many_lines = ok.as_many_lines;
  few_wires = ok.few_wires;
  few_outcomes = ok.few_outcomes;
  dropped_is_new = ends.dropped_is_new;
  dropped_has_x = ends.dropped_has_x;
  m_is_measured = ends.m_is_measured;
  measured_has_m = ends.measured_has_m;
  one_m = one_measure d ok;
  m_is_last = last_measure d ok;
  numbered = λ s h. (ok.steps_follow s h).next_number;
  all_counted = refl;
  eighths = λ s h. (ok.steps_follow s h).eighths;
  known = λ s h. (ok.steps_follow s h).known;
  ins_name = ends.ins_name;
  outs_name = ends.outs_name;
}
