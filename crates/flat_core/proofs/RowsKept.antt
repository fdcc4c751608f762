-- The invariant of drafts is kept on their rows.
use Rattle.std.proofs.Common.{◌≡◌, ℕ, ◌+◌, ◌<◌, ◌^◌, Bool, true, false, cond, List, [], ◌∷◌, ◌++◌, length, get_or, slice_set, Option, Some, None, IfSome, refl, sym, ap, ◌∙◌, subst, arith}
use Rattle.std.proofs.lemmas.List.{map-append, map-set, get_or-map, get_or_read}
use Rattle.flat_core.specs.declared.rows.WireRow.{WireRow}
use Rattle.flat_core.specs.declared.rows.StepRow.{StepRow}
use Rattle.flat_core.specs.declared.step.Step.{Step}
use Rattle.flat_core.specs.declared.step.End.{End}
use Rattle.flat_core.specs.declared.step.End.TheVariants.{Dropped}
use Rattle.flat_core.specs.declared.step.WireId.{WireId}
use Rattle.flat_core.specs.declared.step.StepId.{StepId}
use Rattle.flat_core.specs.Form.{WireForm, DraftForm}
use Rattle.flat_core.specs.Label.{main_wire, wire_in, no_wire, step_in, EachNamed}
use Rattle.flat_core.specs.Sound.{most_steps, most_wires, most_outcomes, is_m, count_measures}
use Rattle.flat_core.specs.Drafts.{with_wire, with_step, with_end, IsNextStep, IsDraft}
use Rattle.flat_core.specs.Rows.{wire_form, wire_forms, steps_of, lines_of, draft_of, no_row, kept_label, row_for, marked, IsDraftRows}
use Rattle.flat_core.proofs.Labels.{label_after-le-length, count_measures-push}
use Rattle.flat_core.proofs.NextSteps.{named_weaker}
use Rattle.flat_core.proofs.Drafting.{draft_empty, draft_wire, draft_step, draft_end}
use Rattle.flat_core.proofs.KeptLabels.{labels_empty, labels_wire, labels_step, labels_end, forms-marked, steps_of-push, lines_of-push, length-steps_of, length-wire_forms, kept}

pub rows_empty : IsDraftRows [] [] 0
rows_empty = record { sound = draft_empty; labels = labels_empty; counted = refl }

-- the wires that a step of a draft names are there
pub steps_there : (d : DraftForm) → IsDraft d → (s : StepId) → s.number < length d.steps → EachNamed (λ w. w.number < length d.wires) (step_in d.steps s)
steps_there d ok s h = (ok.steps_follow s h).there

pub draft_of-wire : (wires : List WireRow) (steps : List StepRow) (input : Bool) → draft_of (wires ++ record { input = input; ending = Dropped; label = 0; measured = false } ∷ []) steps ≡ with_wire (draft_of wires steps) input
draft_of-wire wires steps input = ap (λ (w : List WireForm). record { wires = w; steps = steps_of steps; lines = lines_of steps }) (map-append wire_form wires (record { input = input; ending = Dropped; label = 0; measured = false } ∷ []))

pub rows_wire : (wires : List WireRow) (steps : List StepRow) (outcomes : ℕ) (input : Bool) → IsDraftRows wires steps outcomes → length wires < most_wires → IsDraftRows (wires ++ record { input = input; ending = Dropped; label = 0; measured = false } ∷ []) steps outcomes
rows_wire wires steps outcomes input ok room =
    let same = length-wire_forms wires in
    record {
      sound = subst IsDraft (sym (draft_of-wire wires steps input)) (draft_wire (draft_of wires steps) input ok.sound (omega arith));
      labels = labels_wire wires steps input ok.labels (λ s h. named_weaker (step_in (steps_of steps) s) (λ w. w.number < length (wire_forms wires)) (λ w. w.number < length wires) (λ w l. omega arith) (steps_there (draft_of wires steps) ok.sound s h));
      counted = ok.counted;
    }

pub draft_of-step : (wires : List WireRow) (steps : List StepRow) (step : Step) (line : ℕ) → draft_of (marked wires (main_wire step) (is_m step)) (steps ++ row_for wires step line ∷ []) ≡ with_step (draft_of wires steps) step line
draft_of-step wires steps step line =
    ap (λ (w : List WireForm). record { wires = w; steps = steps_of (steps ++ row_for wires step line ∷ []); lines = lines_of (steps ++ row_for wires step line ∷ []) }) (forms-marked wires (main_wire step) (is_m step))
    ∙ ap (λ (s : List Step). record { wires = wire_forms wires; steps = s; lines = lines_of (steps ++ row_for wires step line ∷ []) }) (steps_of-push steps (row_for wires step line))
    ∙ ap (λ (l : List ℕ). record { wires = wire_forms wires; steps = steps_of steps ++ step ∷ []; lines = l }) (lines_of-push steps (row_for wires step line))

pub rows_there : (wires : List WireRow) (step : Step) → EachNamed (λ w. w.number < length (wire_forms wires)) step → EachNamed (λ w. w.number < length wires) step
rows_there wires step h = let same = length-wire_forms wires in named_weaker step (λ w. w.number < length (wire_forms wires)) (λ w. w.number < length wires) (λ w l. omega arith) h

pub rows_step : (wires : List WireRow) (steps : List StepRow) (outcomes : ℕ) (step : Step) (line : ℕ) → IsDraftRows wires steps outcomes → IsNextStep (draft_of wires steps) step → (is_m step ≡ true → outcomes < most_outcomes) → length steps < most_steps → IsDraftRows (marked wires (main_wire step) (is_m step)) (steps ++ row_for wires step line ∷ []) (outcomes + cond (is_m step) 1 0)
rows_step wires steps outcomes step line ok next few room =
    let same = length-steps_of steps in
    let counted = ok.counted in
    record {
      sound = subst IsDraft (sym (draft_of-step wires steps step line)) (draft_step (draft_of wires steps) step line ok.sound next (λ m. let f = few m in omega arith) (omega arith));
      labels = labels_step wires steps step line ok.labels (rows_there wires step next.there);
      counted = ap (λ (n : ℕ). n + cond (is_m step) 1 0) ok.counted ∙ sym (ap count_measures (steps_of-push steps (row_for wires step line)) ∙ count_measures-push (steps_of steps) step);
    }

-- a label is far below 2^32
pub label_fits : (wires : List WireRow) (steps : List StepRow) (outcomes : ℕ) (o : Option WireId) → IsDraftRows wires steps outcomes → IfSome o (λ w. w.number < length wires) → kept_label wires o + 1 < 2 ^ 32
label_fits wires steps outcomes None ok h = omega arith
label_fits wires steps outcomes (Some w) ok h =
    let e = kept wires steps ok.labels (Some w) h in
    let l = label_after-le-length (steps_of steps) w in
    let few = ok.sound.few_steps in
    omega arith

-- what is read of a wire that is there
pub read_form : (wires : List WireRow) (v : WireId) → v.number < length wires → wire_in (wire_forms wires) v ≡ wire_form (get_or wires v.number no_row)
read_form wires v h = get_or-map wire_form wires v.number no_row no_wire h

module _ (wires : List WireRow) (steps : List StepRow) (v : WireId) (row : WireRow) (ending : End) (there : v.number < length wires) (read : row ≡ get_or wires v.number row) where
  is : get_or wires v.number no_row ≡ row
  is = sym (get_or_read wires v.number row there read no_row)

  pub draft_of-end : draft_of (slice_set wires v.number (record { input = row.input; ending = ending; label = row.label; measured = row.measured })) steps ≡ with_end (draft_of wires steps) v ending
  draft_of-end =
      let input : row.input ≡ (wire_in (wire_forms wires) v).input = ap (λ (r : WireRow). r.input) (sym is) ∙ ap (λ (x : WireForm). x.input) (sym (read_form wires v there)) in
      ap (λ (w : List WireForm). record { wires = w; steps = steps_of steps; lines = lines_of steps })
      (map-set wire_form wires v.number (record { input = row.input; ending = ending; label = row.label; measured = row.measured })
      ∙ ap (λ (b : Bool). slice_set (wire_forms wires) v.number (record { input = b; ending = ending })) input)

  pub rows_end : (outcomes : ℕ) → IsDraftRows wires steps outcomes → IsDraftRows (slice_set wires v.number (record { input = row.input; ending = ending; label = row.label; measured = row.measured })) steps outcomes
  rows_end outcomes ok =
      let same = length-wire_forms wires in
      record {
        sound = subst IsDraft (sym draft_of-end) (draft_end (draft_of wires steps) v ending ok.sound (omega arith));
        labels = labels_end wires steps v (record { input = row.input; ending = ending; label = row.label; measured = row.measured }) ok.labels there (ap (λ (r : WireRow). r.label) (sym is)) (ap (λ (r : WireRow). r.measured) (sym is));
        counted = ok.counted;
      }
