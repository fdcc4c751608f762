-- Flat forms in the making.
use Rattle.std.specs.Prelude.{◌≡◌, ℕ, ◌<◌, ◌≤◌, ◌⊎◌, ◌&&◌, Bool, true, false, cond, not, ltb, List, [], ◌∷◌, ◌++◌, length, take, slice_set, Option, Some, None, IfSome}
use Rattle.std.specs.List.{list_any}
use Rattle.silq_io.specs.declared.limit.OverLimit.{OverLimit}
use Rattle.silq_io.specs.declared.limit.LimitKind.TheVariants.{Steps, Wires, Outcomes}
use Rattle.flat_core.specs.declared.step.Step.{Step}
use Rattle.flat_core.specs.declared.step.End.{End}
use Rattle.flat_core.specs.declared.step.End.TheVariants.{Output, Dropped, Measured}
use Rattle.flat_core.specs.declared.step.WireId.{WireId}
use Rattle.flat_core.specs.declared.step.StepId.{StepId}
use Rattle.flat_core.specs.Form.{FlatForm, DraftForm}
use Rattle.flat_core.specs.Label.{changes, main_wire, step_in, step_at, wire_in, end_of, is_input, label_after, EachNamed, EachControl, WiresDiffer}
use Rattle.flat_core.specs.Ends.{measures}
use Rattle.flat_core.specs.Sound.{most_steps, most_wires, most_outcomes, is_x, is_m, count_measures, HasNumber, HasEighths, NamesExactly}

abbrev pub empty_draft : DraftForm
empty_draft = record { wires = []; steps = []; lines = [] }

-- a draft with one wire more, which ends as Dropped at first
abbrev pub with_wire : DraftForm → Bool → DraftForm
with_wire d input = record { wires = d.wires ++ record { input = input; ending = Dropped } ∷ []; steps = d.steps; lines = d.lines }

-- a draft with one step more, and its line
abbrev pub with_step : DraftForm → Step → ℕ → DraftForm
with_step d step line = record { wires = d.wires; steps = d.steps ++ step ∷ []; lines = d.lines ++ line ∷ [] }

-- a draft with another end for a wire
abbrev pub with_end : DraftForm → WireId → End → DraftForm
with_end d w ending = record { wires = slice_set d.wires w.number (record { input = (wire_in d.wires w).input; ending = ending }); steps = d.steps; lines = d.lines }

-- the flat form that a draft becomes
abbrev pub finished : DraftForm → List (List WireId) → List (List WireId) → FlatForm
finished d ins outs = record { wires = d.wires; steps = d.steps; lines = d.lines; outcomes = count_measures d.steps; ins = ins; outs = outs }

-- whether some steps measure a wire
abbrev pub is_measured : List Step → WireId → Bool
is_measured steps w = list_any (measures w) steps

-- what a step has to meet to be the next one
pub record IsNextStep (d : DraftForm) (step : Step) : Type 0 where
  -- its wires are there, and differ
  pub there : EachNamed (λ w. w.number < length d.wires) step
  pub differ : WiresDiffer step
  -- each control is an input or has a label above 0
  pub known : EachControl (λ w. ((wire_in d.wires w).input ≡ true) ⊎ (0 < label_after d.steps w)) step
  -- what it changes or measures has no M yet
  pub unmeasured : IfSome (main_wire step) (λ w. is_measured d.steps w ≡ false)
  -- the eighths of a P are 1 to 7, and an M has the next number
  pub eighths : HasEighths step
  pub next_number : HasNumber (count_measures d.steps) step

-- the limit that one wire more would exceed, if any
abbrev pub over_by_wire : DraftForm → Option OverLimit
over_by_wire d = cond (ltb (length d.wires) most_wires) None (Some (record { which = Wires; count = 100001 }))

-- the limit that a step would exceed, if any: that of outcomes comes before that of steps
abbrev pub over_by_step : DraftForm → Step → Option OverLimit
over_by_step d step =
    cond (is_m step && not (ltb (count_measures d.steps) most_outcomes))
    (Some (record { which = Outcomes; count = 4097 }))
    (cond (ltb (length d.steps) most_steps) None (Some (record { which = Steps; count = 200001 })))

-- the draft with its first n steps alone
abbrev pub first_steps : DraftForm → ℕ → DraftForm
first_steps d n = record { wires = d.wires; steps = take n d.steps; lines = take n d.lines }

-- what holds of every draft
pub record IsDraft (d : DraftForm) : Type 0 where
  pub steps_follow : (s : StepId) → s.number < length d.steps → IsNextStep (first_steps d s.number) (step_in d.steps s)
  pub few_steps : length d.steps ≤ most_steps
  pub as_many_lines : length d.lines ≡ length d.steps
  pub few_wires : length d.wires ≤ most_wires
  pub few_outcomes : count_measures d.steps ≤ most_outcomes

-- the parts of the invariant of flat forms that speak of ends and lists
pub record FitsEnds (f : FlatForm) : Type 0 where
  pub dropped_is_new : (w : WireId) → end_of f w ≡ Dropped → is_input f w ≡ false
  pub dropped_has_x : (s : StepId) (w : WireId) → s.number < length f.steps → end_of f w ≡ Dropped → changes w (step_at f s) ≡ true → is_x (step_at f s) ≡ true
  pub m_is_measured : (s : StepId) (w : WireId) → s.number < length f.steps → measures w (step_at f s) ≡ true → end_of f w ≡ Measured
  pub measured_has_m : (w : WireId) → end_of f w ≡ Measured → (s : StepId) × (s.number < length f.steps) × (measures w (step_at f s) ≡ true)
  pub ins_name : NamesExactly f.ins (λ w. is_input f w ≡ true)
  pub outs_name : NamesExactly f.outs (λ w. (w.number < length f.wires) × (end_of f w ≡ Output))
