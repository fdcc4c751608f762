-- What becomes of the wires of a flat form.
use Rattle.std.specs.Prelude.{◌≡◌, ◌<◌, Bool, true, false, length}
use Rattle.flat_core.specs.declared.step.Step.{Step}
use Rattle.flat_core.specs.declared.step.Step.TheVariants.{X, H, P, M}
use Rattle.flat_core.specs.declared.step.End.{End}
use Rattle.flat_core.specs.declared.step.End.TheVariants.{Output, Dropped, Measured, Zeroed}
use Rattle.flat_core.specs.declared.step.WireId.{WireId}
use Rattle.flat_core.specs.declared.step.StepId.{StepId}
use Rattle.flat_core.specs.Form.{FlatForm}
use Rattle.flat_core.specs.Label.{same_wire, step_at, end_of, changes, top, label_before}

abbrev pub is_dropped : End → Bool
is_dropped Dropped = true
is_dropped Output = false
is_dropped Measured = false
is_dropped Zeroed = false

-- whether a wire is freed at its top: it is measured, or known to be zero
abbrev pub is_freed : End → Bool
is_freed Output = false
is_freed Dropped = false
is_freed Measured = true
is_freed Zeroed = true

abbrev pub dropped : FlatForm → WireId → Bool
dropped f w = is_dropped (end_of f w)

abbrev pub freed : FlatForm → WireId → Bool
freed f w = is_freed (end_of f w)

-- whether a step is undone again: it is an X on a Dropped wire
abbrev pub undone_step : FlatForm → Step → Bool
undone_step f (X target first second) = dropped f target
undone_step f (H target control) = false
undone_step f (P eighths control) = false
undone_step f (M wire number) = false

abbrev pub undone : FlatForm → StepId → Bool
undone f s = undone_step f (step_at f s)

-- whether a step measures a wire
abbrev pub measures : WireId → Step → Bool
measures w (X target first second) = false
measures w (H target control) = false
measures w (P eighths control) = false
measures w (M wire number) = same_wire wire w

-- the parts of the flat form's invariant on which its circuit graph rests
pub record KeepsEnds (f : FlatForm) : Type 0 where
  -- a Dropped wire has X steps only
  pub dropped_by_x : (s : StepId) (w : WireId) → s.number < length f.steps → changes w (step_at f s) ≡ true → dropped f w ≡ true → undone f s ≡ true
  -- nothing changes a wire after its measure
  pub measured_at_top : (s : StepId) (w : WireId) → s.number < length f.steps → measures w (step_at f s) ≡ true → label_before f s w ≡ top f w
