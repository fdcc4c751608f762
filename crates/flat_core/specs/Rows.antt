-- What is kept of wires and steps, and what it stands for.
use Rattle.std.specs.Prelude.{◌≡◌, ℕ, ◌+◌, Bool, true, false, List, map, take, get_or, slice_get, slice_set, Option, Some, None}
use Rattle.flat_core.specs.declared.rows.WireRow.{WireRow}
use Rattle.flat_core.specs.declared.rows.StepRow.{StepRow}
use Rattle.flat_core.specs.declared.step.Step.{Step}
use Rattle.flat_core.specs.declared.step.End.TheVariants.{Output}
use Rattle.flat_core.specs.declared.step.WireId.{WireId}
use Rattle.flat_core.specs.Form.{WireForm, FlatForm, DraftForm}
use Rattle.flat_core.specs.Label.{main_wire, first_wire, second_wire, label_after}
use Rattle.flat_core.specs.Sound.{count_measures, IsFlat}
use Rattle.flat_core.specs.Drafts.{IsDraft, is_measured}

abbrev pub wire_form : WireRow → WireForm
wire_form row = record { input = row.input; ending = row.ending }

abbrev pub wire_forms : List WireRow → List WireForm
wire_forms rows = map wire_form rows

abbrev pub steps_of : List StepRow → List Step
steps_of rows = map (λ row. row.step) rows

abbrev pub lines_of : List StepRow → List ℕ
lines_of rows = map (λ row. row.line) rows

abbrev pub draft_of : List WireRow → List StepRow → DraftForm
draft_of wires steps = record { wires = wire_forms wires; steps = steps_of steps; lines = lines_of steps }

abbrev pub flat_of : List WireRow → List StepRow → ℕ → List (List WireId) → List (List WireId) → FlatForm
flat_of wires steps outcomes ins outs = record { wires = wire_forms wires; steps = steps_of steps; lines = lines_of steps; outcomes = outcomes; ins = ins; outs = outs }

-- what is read where there is no row
abbrev pub no_row : WireRow
no_row = record { input = false; ending = Output; label = 0; measured = false }

-- the label that is kept of a wire, 0 for none
abbrev pub kept_label : List WireRow → Option WireId → ℕ
kept_label rows None = 0
kept_label rows (Some w) = (get_or rows w.number no_row).label

-- the label of a wire after some steps, 0 for none
abbrev pub label_if_any : List Step → Option WireId → ℕ
label_if_any steps None = 0
label_if_any steps (Some w) = label_after steps w

abbrev pub row_for : List WireRow → Step → ℕ → StepRow
row_for rows step line = record {
  step = step;
  line = line;
  main = kept_label rows (main_wire step);
  first = kept_label rows (first_wire step);
  second = kept_label rows (second_wire step);
}

-- the rows after a step with this main wire, which measures it or changes it
abbrev pub marked_row : WireRow → Bool → WireRow
marked_row row true = record { input = row.input; ending = row.ending; label = row.label; measured = true }
marked_row row false = record { input = row.input; ending = row.ending; label = row.label + 1; measured = row.measured }

abbrev pub marked : List WireRow → Option WireId → Bool → List WireRow
marked rows None measures = rows
marked rows (Some w) measures = slice_set rows w.number (marked_row (get_or rows w.number no_row) measures)

-- the labels that are kept of a step are those after the steps before it
pub record HasLabels (before : List Step) (row : StepRow) : Type 0 where
  pub main_label : row.main ≡ label_if_any before (main_wire row.step)
  pub first_label : row.first ≡ label_if_any before (first_wire row.step)
  pub second_label : row.second ≡ label_if_any before (second_wire row.step)

-- what is kept of a wire is its label after the steps so far, and whether one of them measures it
pub record IsRowOf (steps : List Step) (w : WireId) (row : WireRow) : Type 0 where
  pub label_is : row.label ≡ label_after steps w
  pub measured_is : row.measured ≡ is_measured steps w

-- all that is kept is right
pub record KeepsLabels (wires : List WireRow) (steps : List StepRow) : Type 0 where
  pub of_wires : (w : WireId) (row : WireRow) → slice_get wires w.number ≡ Some row → IsRowOf (steps_of steps) w row
  pub of_steps : (k : ℕ) (row : StepRow) → slice_get steps k ≡ Some row → HasLabels (take k (steps_of steps)) row

pub record IsDraftRows (wires : List WireRow) (steps : List StepRow) (outcomes : ℕ) : Type 0 where
  pub sound : IsDraft (draft_of wires steps)
  pub labels : KeepsLabels wires steps
  pub counted : outcomes ≡ count_measures (steps_of steps)

pub record IsFlatRows (wires : List WireRow) (steps : List StepRow) (outcomes : ℕ) (ins outs : List (List WireId)) : Type 0 where
  pub sound : IsFlat (flat_of wires steps outcomes ins outs)
  pub labels : KeepsLabels wires steps
