-- How far a list of moves has come, as rows for wires and steps tell it.
use Rattle.std.specs.Prelude.{◌≡◌, ℕ, ◌+◌, ◌-◌, ◌<◌, Bool, true, false, cond, List, length, get_or, slice_set, Option, Some, None, IfSome}
use Rattle.flat_core.specs.declared.step.Step.{Step}
use Rattle.flat_core.specs.declared.step.Step.TheVariants.{X, H, P, M}
use Rattle.flat_core.specs.declared.step.WireId.{WireId}
use Rattle.flat_core.specs.declared.step.StepId.{StepId}
use Rattle.flat_core.specs.Form.{FlatForm}
use Rattle.flat_core.specs.Label.{main_wire, step_at, wire_of, top, label_before}
use Rattle.flat_core.specs.Ends.{dropped, freed}
use Rattle.move_plan.specs.declared.track.Track.{Track}
use Rattle.move_plan.specs.declared.moves.Move.{Move}
use Rattle.move_plan.specs.declared.moves.Move.TheVariants.{Up, Down, Do, Free}
use Rattle.move_plan.specs.Progress.{Progress, StandsAt}
use Rattle.move_plan.specs.Live.{live}

-- how many wires and steps some rows are for
pub record RowsForm : Type 0 where
  pub wires : ℕ
  pub steps : ℕ

-- rows for the wires and steps of a flat form
pub record IsMadeFor (f : FlatForm) (rows : RowsForm) : Type 0 where
  pub wires_are : rows.wires ≡ length f.wires
  pub steps_are : rows.steps ≡ length f.steps

abbrev pub rows_of : Track → RowsForm
rows_of t = record { wires = length t.labels.items; steps = length t.done.items }

-- one row for each wire
pub record HasEvenRows (t : Track) : Type 0 where
  pub measured_rows : length t.measured.items ≡ length t.labels.items
  pub gone_rows : length t.gone.items ≡ length t.labels.items

pub record HasRows (f : FlatForm) (t : Track) : Type 0 where
  pub label_rows : length t.labels.items ≡ length f.wires
  pub done_rows : length t.done.items ≡ length f.steps
  pub measured_rows : length t.measured.items ≡ length f.wires
  pub gone_rows : length t.gone.items ≡ length f.wires

-- the progress that the rows tell
abbrev pub told : Track → Progress
told t = record {
  label = λ w. get_or t.labels.items w.number 0;
  done = λ s. get_or t.done.items s.number false;
  measured = λ w. get_or t.measured.items w.number false;
  gone = λ w. get_or t.gone.items w.number false;
}

-- something holds of each wire that a step uses, and of the one that it changes
abbrev pub OfUsed : (WireId → Type 0) → Step → Type 0
OfUsed holds (X target first second) = IfSome (wire_of first) holds × IfSome (wire_of second) holds
OfUsed holds (H target control) = IfSome (wire_of control) holds
OfUsed holds (P eighths control) = holds control.wire
OfUsed holds (M wire number) = holds wire

abbrev pub OfChanged : (WireId → Type 0) → Step → Type 0
OfChanged holds (X target first second) = holds target
OfChanged holds (H target control) = holds target
OfChanged holds (P eighths control) = Unit {0}
OfChanged holds (M wire number) = Unit {0}

-- the wires that a step names stand before it, but what it changes stands higher by so much
pub record Named (f : FlatForm) (p : Progress) (s : StepId) (raise : ℕ) : Type 0 where
  pub of_used : OfUsed (λ w. StandsAt p w (label_before f s w)) (step_at f s)
  pub of_changed : OfChanged (λ w. StandsAt p w (label_before f s w + raise)) (step_at f s)

-- a move is of a step that is there, or of a wire
abbrev pub MoveThere : FlatForm → Move → Type 0
MoveThere f (Up s) = s.number < length f.steps
MoveThere f (Down s) = s.number < length f.steps
MoveThere f (Do s) = s.number < length f.steps
MoveThere f (Free w) = Unit {0}

-- the wire that a move may make live or not
abbrev pub touched : FlatForm → Move → Option WireId
touched f (Up s) = main_wire (step_at f s)
touched f (Down s) = main_wire (step_at f s)
touched f (Do s) = main_wire (step_at f s)
touched f (Free w) = Some w

-- a wire is where it has to be at the end
pub record WireEnds (f : FlatForm) (p : Progress) (w : WireId) : Type 0 where
  pub at_bottom : dropped f w ≡ true → p.label w ≡ 0
  pub at_top : dropped f w ≡ false → p.label w ≡ top f w
  pub all_gone : freed f w ≡ true → p.gone w ≡ true

-- the labels after a step is done, and after it is undone
abbrev pub raised : List ℕ → Step → List ℕ
raised labels (X target first second) = slice_set labels target.number (get_or labels target.number 0 + 1)
raised labels (H target control) = slice_set labels target.number (get_or labels target.number 0 + 1)
raised labels (P eighths control) = labels
raised labels (M wire number) = labels

abbrev pub lowered : List ℕ → Step → List ℕ
lowered labels (X target first second) = slice_set labels target.number (get_or labels target.number 0 - 1)
lowered labels (H target control) = slice_set labels target.number (get_or labels target.number 0 - 1)
lowered labels (P eighths control) = labels
lowered labels (M wire number) = labels

-- the flags of measured wires after a step
abbrev pub with_measure : List Bool → Step → List Bool
with_measure flags (X target first second) = flags
with_measure flags (H target control) = flags
with_measure flags (P eighths control) = flags
with_measure flags (M wire number) = slice_set flags wire.number true

-- 1 for a wire that is live, and 0 for another one or none
abbrev pub live_count : FlatForm → Progress → Option WireId → ℕ
live_count f p None = 0
live_count f p (Some w) = cond (live f p w) 1 0
