-- Tables of wires and steps, and their flat forms.
use Rattle.std.specs.Prelude.{◌≡◌, ◌≢◌, ℕ, zero, suc, Bool, true, false, cond, List, [], ◌∷◌, ◌++◌, map, length, ⊤}
use Rattle.flat_core.specs.declared.step.Step.{Step}
use Rattle.flat_core.specs.declared.step.Step.TheVariants.{X, H, P, M}
use Rattle.flat_core.specs.declared.step.End.{End}
use Rattle.flat_core.specs.declared.step.End.TheVariants.{Output, Dropped, Measured, Zeroed}
use Rattle.flat_core.specs.declared.step.WireId.{WireId}
use Rattle.flat_core.specs.Form.{WireForm, FlatForm, DraftForm}
use Rattle.flat_core.specs.Label.{wire_id, wire_in}
use Rattle.flat_core.specs.Sound.{count_measures}
use Rattle.flat_core.specs.Drafts.{with_wire, with_step, with_end, is_measured}
use Rattle.test_forms.specs.declared.entries.WireEntry.{WireEntry}
use Rattle.test_forms.specs.declared.entries.StepEntry.{StepEntry}
use Rattle.test_forms.specs.declared.lists.Side.{Side}
use Rattle.test_forms.specs.declared.lists.Side.TheVariants.{Ins, Outs}

abbrev pub wire_form_of : WireEntry → WireForm
wire_form_of entry = record { input = entry.input; ending = entry.end }

abbrev pub wire_forms_of : List WireEntry → List WireForm
wire_forms_of entries = map wire_form_of entries

abbrev pub steps_of : List StepEntry → List Step
steps_of entries = map (λ entry. entry.step) entries

abbrev pub lines_of : List StepEntry → List ℕ
lines_of entries = map (λ entry. entry.line) entries

abbrev pub is_output : End → Bool
is_output Output = true
is_output Dropped = false
is_output Measured = false
is_output Zeroed = false

-- whether a wire is of a side
abbrev pub keeps : Side → WireForm → Bool
keeps Ins wire = wire.input
keeps Outs wire = is_output wire.ending

-- the ids of those of the first n wires that are of a side
abbrev pub ids : Side → List WireForm → ℕ → List WireId
ids side wires zero = []
ids side wires (suc n) = ids side wires n ++ cond (keeps side (wire_in wires (wire_id n))) (wire_id n ∷ []) []

-- the flat form of a table
abbrev pub form_of : List WireEntry → List StepEntry → FlatForm
form_of wires steps = record {
  wires = wire_forms_of wires;
  steps = steps_of steps;
  lines = lines_of steps;
  outcomes = count_measures (steps_of steps);
  ins = ids Ins (wire_forms_of wires) (length wires) ∷ [];
  outs = ids Outs (wire_forms_of wires) (length wires) ∷ [];
}

-- a draft with the wires and the steps of a table
abbrev pub with_entry : DraftForm → WireEntry → DraftForm
with_entry d entry = with_end (with_wire d entry.input) (wire_id (length d.wires)) entry.end

abbrev pub with_entries : DraftForm → List WireEntry → DraftForm
with_entries d [] = d
with_entries d (entry ∷ rest) = with_entries (with_entry d entry) rest

abbrev pub with_steps : DraftForm → List StepEntry → DraftForm
with_steps d [] = d
with_steps d (entry ∷ rest) = with_steps (with_step d entry.step entry.line) rest

-- a Dropped wire is new, and a Measured one has an M
pub record WireFits (steps : List Step) (wire : WireForm) (w : WireId) : Type 0 where
  pub dropped_is_new : wire.ending ≡ Dropped → wire.input ≡ false
  pub measured_has_m : wire.ending ≡ Measured → is_measured steps w ≡ true

-- a Dropped wire has no H, and only a Measured one an M
abbrev pub StepFits : List WireForm → Step → Type 0
StepFits wires (X target first second) = ⊤
StepFits wires (H target control) = (wire_in wires target).ending ≢ Dropped
StepFits wires (P eighths control) = ⊤
StepFits wires (M wire number) = (wire_in wires wire).ending ≡ Measured
