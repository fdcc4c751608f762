-- The invariant of flat forms.
use Rattle.std.specs.Prelude.{◌≡◌, ℕ, ◌<◌, ◌≤◌, ◌⊎◌, Bool, true, false, List, [], ◌∷◌, ◌++◌, length, take, slice_get, Some, Contains, count_by, ⊤}
use Rattle.flat_core.specs.declared.step.Step.{Step}
use Rattle.flat_core.specs.declared.step.Step.TheVariants.{X, H, P, M}
use Rattle.flat_core.specs.declared.step.End.TheVariants.{Output, Dropped, Measured}
use Rattle.flat_core.specs.declared.step.WireId.{WireId}
use Rattle.flat_core.specs.declared.step.StepId.{StepId}
use Rattle.flat_core.specs.Form.{FlatForm}
use Rattle.flat_core.specs.Label.{changes, step_at, end_of, is_input, label_before, EachNamed, EachControl, WiresDiffer}
use Rattle.flat_core.specs.Ends.{measures}

-- the greatest numbers of steps, wires and outcome bits
abbrev pub most_steps : ℕ
most_steps = 200000

abbrev pub most_wires : ℕ
most_wires = 100000

abbrev pub most_outcomes : ℕ
most_outcomes = 4096

abbrev pub is_x : Step → Bool
is_x (X target first second) = true
is_x (H target control) = false
is_x (P eighths control) = false
is_x (M wire number) = false

abbrev pub is_m : Step → Bool
is_m (X target first second) = false
is_m (H target control) = false
is_m (P eighths control) = false
is_m (M wire number) = true

-- how many steps measure
abbrev pub count_measures : List Step → ℕ
count_measures steps = count_by is_m steps

-- an M step has this outcome number
abbrev pub HasNumber : ℕ → Step → Type 0
HasNumber n (X target first second) = ⊤
HasNumber n (H target control) = ⊤
HasNumber n (P eighths control) = ⊤
HasNumber n (M wire number) = number ≡ n

-- the eighths of a P step are 1 to 7
abbrev pub HasEighths : Step → Type 0
HasEighths (X target first second) = ⊤
HasEighths (H target control) = ⊤
HasEighths (P eighths control) = (0 < eighths) × (eighths < 8)
HasEighths (M wire number) = ⊤

-- the wires of some lists, one list after another
abbrev pub joined : List (List WireId) → List WireId
joined [] = []
joined (wires ∷ rest) = wires ++ joined rest

-- some lists name exactly the wires of a kind, each once
pub record NamesExactly (lists : List (List WireId)) (IsOne : WireId → Type 0) : Type 0 where
  pub only : (w : WireId) → Contains (joined lists) w → IsOne w
  pub each : (w : WireId) → IsOne w → Contains (joined lists) w
  pub once : (i j : ℕ) (w : WireId) → slice_get (joined lists) i ≡ Some w → slice_get (joined lists) j ≡ Some w → i ≡ j

-- what holds of every flat form
pub record IsFlat (f : FlatForm) : Type 0 where
  -- 1. ids are in range, and the wires of one step differ
  pub in_range : (s : StepId) → s.number < length f.steps → EachNamed (λ w. w.number < length f.wires) (step_at f s)
  pub differ : (s : StepId) → s.number < length f.steps → WiresDiffer (step_at f s)
  -- 2. there are at most 200,000 steps, each with its line, at most 100,000 wires and at most 4,096 outcome bits
  pub few_steps : length f.steps ≤ most_steps
  pub as_many_lines : length f.lines ≡ length f.steps
  pub few_wires : length f.wires ≤ most_wires
  pub few_outcomes : f.outcomes ≤ most_outcomes
  -- 3. a Dropped wire is no input, and has X steps only
  pub dropped_is_new : (w : WireId) → end_of f w ≡ Dropped → is_input f w ≡ false
  pub dropped_has_x : (s : StepId) (w : WireId) → s.number < length f.steps → end_of f w ≡ Dropped → changes w (step_at f s) ≡ true → is_x (step_at f s) ≡ true
  -- 4. each wire with an M is Measured; a Measured wire has exactly one M, and no X or H after it
  pub m_is_measured : (s : StepId) (w : WireId) → s.number < length f.steps → measures w (step_at f s) ≡ true → end_of f w ≡ Measured
  pub measured_has_m : (w : WireId) → end_of f w ≡ Measured → (s : StepId) × (s.number < length f.steps) × (measures w (step_at f s) ≡ true)
  pub one_m : (s t : StepId) (w : WireId) → s.number < length f.steps → t.number < length f.steps → measures w (step_at f s) ≡ true → measures w (step_at f t) ≡ true → s ≡ t
  pub m_is_last : (s t : StepId) (w : WireId) → s.number < t.number → t.number < length f.steps → measures w (step_at f s) ≡ true → changes w (step_at f t) ≡ false
  -- 5. the M steps have the numbers 0, 1 and so on in step order, and `outcomes` is their count
  pub numbered : (s : StepId) → s.number < length f.steps → HasNumber (count_measures (take s.number f.steps)) (step_at f s)
  pub all_counted : f.outcomes ≡ count_measures f.steps
  -- 6. the eighths of each P are 1 to 7
  pub eighths : (s : StepId) → s.number < length f.steps → HasEighths (step_at f s)
  -- 7. no step has as a control a wire of label 0 that is no input
  pub known : (s : StepId) → s.number < length f.steps → EachControl (λ w. (is_input f w ≡ true) ⊎ (0 < label_before f s w)) (step_at f s)
  -- 8. the lists of `ins` name exactly the input wires, each once
  pub ins_name : NamesExactly f.ins (λ w. is_input f w ≡ true)
  -- 9. the lists of `outs` name exactly the Output wires, each once
  pub outs_name : NamesExactly f.outs (λ w. (w.number < length f.wires) × (end_of f w ≡ Output))
