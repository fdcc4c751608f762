-- The simple and the marked wires, as flags for each wire.
use Rattle.std.specs.Prelude.{◌≡◌, ℕ, ◌<◌, ◌≤◌, Bool, true, false, cond, eqb, List, length, take, get_or, slice_set, Option, Some, None}
use Rattle.flat_core.specs.declared.step.WireId.{WireId}
use Rattle.flat_core.specs.declared.step.StepId.{StepId}
use Rattle.flat_core.specs.Form.{FlatForm}
use Rattle.flat_core.specs.Label.{changes, step_at, top, label_before}
use Rattle.reqomp.specs.declared.marked.Marks.{Marks}
use Rattle.reqomp.specs.Simple.{has_wire, used_at_top_from, marked_at}
use Rattle.reqomp.specs.Redone.{changes_one}

-- flags tell which wires a list has
abbrev pub AreFlagsOf : List Bool → List WireId → Type 0
AreFlagsOf flags wires = (w : WireId) → get_or flags w.number false ≡ has_wire w wires

-- a flag for each wire: whether the first n steps use it at its top only
pub record AreTopFlags (f : FlatForm) (n : ℕ) (flags : List Bool) : Type 0 where
  pub as_many : length flags ≡ length f.wires
  pub told : (w : WireId) → w.number < length f.wires → get_or flags w.number false ≡ used_at_top_from f w 0 (take n f.steps)

-- the flags after a step that uses a wire, if any
abbrev pub low_noted : FlatForm → StepId → Option WireId → List Bool → List Bool
low_noted f s None flags = flags
low_noted f s (Some w) flags = cond (eqb (label_before f s w) (top f w)) flags (slice_set flags w.number false)

-- a step number for each wire, which is no greater than that of any step that changes it
pub record AreFirstSteps (f : FlatForm) (first : List ℕ) : Type 0 where
  pub each_wire : length first ≡ length f.wires
  pub least : (w : WireId) (s : StepId) → s.number < length f.steps → changes w (step_at f s) ≡ true → get_or first w.number 0 ≤ s.number

-- an earlier step for each step (for step 0 itself), and between the two none that changes one of some wires
pub record AreJumps (f : FlatForm) (wires : List WireId) (jumps : List ℕ) : Type 0 where
  pub each_step : length jumps ≡ length f.steps
  pub earlier : (s : StepId) → 0 < s.number → s.number < length f.steps → get_or jumps s.number 0 < s.number
  pub between : (s t : StepId) → s.number < length f.steps → get_or jumps s.number 0 < t.number → t.number < s.number → changes_one wires (step_at f t) ≡ false

-- the wires that a level marks, told by flags, and the way back over the steps that change them
pub record AreMarks (f : FlatForm) (m : Marks) : Type 0 where
  pub as_many : length m.flags.items ≡ length f.wires
  pub told : AreFlagsOf m.flags.items (marked_at f m.level)
  pub jumps : AreJumps f (marked_at f m.level) m.jumps.items
