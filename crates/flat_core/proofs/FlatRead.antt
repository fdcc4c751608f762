-- What is read of the rows of a flat form.
use Rattle.std.proofs.Common.{◌≡◌, ℕ, ◌<◌, List, length, get_or, slice_get, take, Some, sym, ap, ◌∙◌, arith}
use Rattle.std.proofs.lemmas.List.{get_or-map}
use Rattle.std.proofs.lemmas.Option.{slice_get-get_or}
use Rattle.flat_core.specs.declared.rows.WireRow.{WireRow}
use Rattle.flat_core.specs.declared.rows.StepRow.{StepRow}
use Rattle.flat_core.specs.declared.step.WireId.{WireId}
use Rattle.flat_core.specs.declared.step.StepId.{StepId}
use Rattle.flat_core.specs.Label.{no_step, step_in, main_wire, first_wire, second_wire, label_after}
use Rattle.flat_core.specs.Form.{FlatForm}
use Rattle.flat_core.proofs.KeptLabels.{length-steps_of}
use Rattle.flat_core.specs.Rows.{flat_of, steps_of, label_if_any, KeepsLabels}

-- a step that is there has a row
pub step_there : (wires : List WireRow) (steps : List StepRow) (outcomes : ℕ) (ins outs : List (List WireId)) (f : FlatForm) (n : ℕ) → flat_of wires steps outcomes ins outs ≡ f → n < length f.steps → n < length steps
step_there wires steps outcomes ins outs f n is h =
    let same = length-steps_of steps in
    let view : length (steps_of steps) ≡ length f.steps = ap (λ (x : FlatForm). length x.steps) is in
    omega arith

-- the row of a step
module _ (wires : List WireRow) (steps : List StepRow) (ok : KeepsLabels wires steps) (s : StepId) (row : StepRow) (there : s.number < length steps) (read : row ≡ get_or steps s.number row) where
  at : slice_get steps s.number ≡ Some row
  at = slice_get-get_or steps s.number row there ∙ ap (λ (r : StepRow). Some r) (sym read)

  pub read_step : step_in (steps_of steps) s ≡ row.step
  read_step = get_or-map (λ r. r.step) steps s.number row no_step there ∙ ap (λ (r : StepRow). r.step) (sym read)

  pub read_main : (w : WireId) → main_wire row.step ≡ Some w → row.main ≡ label_after (take s.number (steps_of steps)) w
  read_main w e = (ok.of_steps s.number row at).main_label ∙ ap (label_if_any (take s.number (steps_of steps))) e

  pub read_first : (w : WireId) → first_wire row.step ≡ Some w → row.first ≡ label_after (take s.number (steps_of steps)) w
  read_first w e = (ok.of_steps s.number row at).first_label ∙ ap (label_if_any (take s.number (steps_of steps))) e

  pub read_second : (w : WireId) → second_wire row.step ≡ Some w → row.second ≡ label_after (take s.number (steps_of steps)) w
  read_second w e = (ok.of_steps s.number row at).second_label ∙ ap (label_if_any (take s.number (steps_of steps))) e
