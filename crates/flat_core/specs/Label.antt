-- What a step changes and uses, and the labels of wires.
use Rattle.std.specs.Prelude.{◌≡◌, ◌≢◌, ℕ, Bool, false, eqb, List, [], ◌∷◌, ◌++◌, take, get_or, Option, Some, None, option_map, IfSome, count_by, ◌⊎◌}
use Rattle.flat_core.specs.declared.step.Step.{Step}
use Rattle.flat_core.specs.declared.step.Step.TheVariants.{X, H, P, M}
use Rattle.flat_core.specs.declared.step.End.{End}
use Rattle.flat_core.specs.declared.step.End.TheVariants.{Output}
use Rattle.flat_core.specs.declared.step.WireId.{WireId}
use Rattle.flat_core.specs.declared.step.StepId.{StepId}
use Rattle.flat_core.specs.declared.step.Lit.{Lit}
use Rattle.flat_core.specs.Form.{FlatForm, WireForm}

-- the step and the wire with a number
abbrev pub step_id : ℕ → StepId
step_id n = record { number = n }

abbrev pub wire_id : ℕ → WireId
wire_id n = record { number = n }

abbrev pub same_wire : WireId → WireId → Bool
same_wire a b = eqb a.number b.number

-- whether a step changes a wire: it is an X or an H with this target
abbrev pub changes : WireId → Step → Bool
changes w (X target first second) = same_wire target w
changes w (H target control) = same_wire target w
changes w (P eighths control) = false
changes w (M wire number) = false

abbrev pub control_wires : Option Lit → List WireId
control_wires None = []
control_wires (Some control) = control.wire ∷ []

-- the wires that a step uses: its controls, or the wire that it measures
abbrev pub used : Step → List WireId
used (X target first second) = control_wires first ++ control_wires second
used (H target control) = control_wires control
used (P eighths control) = control.wire ∷ []
used (M wire number) = wire ∷ []

-- the wire that a step changes or measures
abbrev pub main_wire : Step → Option WireId
main_wire (X target first second) = Some target
main_wire (H target control) = Some target
main_wire (P eighths control) = None
main_wire (M wire number) = Some wire

abbrev pub wire_of : Option Lit → Option WireId
wire_of control = option_map (λ l. l.wire) control

-- the wires of its first and of its second control
abbrev pub first_wire : Step → Option WireId
first_wire (X target first second) = wire_of first
first_wire (H target control) = wire_of control
first_wire (P eighths control) = Some control.wire
first_wire (M wire number) = None

abbrev pub second_wire : Step → Option WireId
second_wire (X target first second) = wire_of second
second_wire (H target control) = None
second_wire (P eighths control) = None
second_wire (M wire number) = None

-- a step names a wire: it changes it, measures it, or has it as a control
abbrev pub Names : Step → WireId → Type 0
Names s w = (main_wire s ≡ Some w) ⊎ (first_wire s ≡ Some w) ⊎ (second_wire s ≡ Some w)

-- something holds of each control of a step, and of each wire that it names
abbrev pub EachControl : (WireId → Type 0) → Step → Type 0
EachControl holds s = IfSome (first_wire s) holds × IfSome (second_wire s) holds

abbrev pub EachNamed : (WireId → Type 0) → Step → Type 0
EachNamed holds s = IfSome (main_wire s) holds × EachControl holds s

-- all wires that a step names differ
abbrev pub Apart : Option WireId → Option WireId → Type 0
Apart a b = IfSome a (λ v. IfSome b (λ w. v.number ≢ w.number))

abbrev pub WiresDiffer : Step → Type 0
WiresDiffer s = Apart (main_wire s) (first_wire s) × Apart (main_wire s) (second_wire s) × Apart (first_wire s) (second_wire s)

-- what is read at a number that no step and no wire has
abbrev pub no_step : Step
no_step = M (wire_id 0) 0

abbrev pub no_wire : WireForm
no_wire = record { input = false; ending = Output }

abbrev pub step_in : List Step → StepId → Step
step_in steps s = get_or steps s.number no_step

abbrev pub step_at : FlatForm → StepId → Step
step_at f s = step_in f.steps s

abbrev pub wire_in : List WireForm → WireId → WireForm
wire_in wires w = get_or wires w.number no_wire

abbrev pub end_of : FlatForm → WireId → End
end_of f w = (wire_in f.wires w).ending

abbrev pub is_input : FlatForm → WireId → Bool
is_input f w = (wire_in f.wires w).input

-- the label of a wire after some steps: how many of them change it
abbrev pub label_after : List Step → WireId → ℕ
label_after steps w = count_by (changes w) steps

abbrev pub label_before : FlatForm → StepId → WireId → ℕ
label_before f s w = label_after (take s.number f.steps) w

abbrev pub top : FlatForm → WireId → ℕ
top f w = label_after f.steps w
