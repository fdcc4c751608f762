-- The pass back over the steps as its code goes: found wires by stamps, and where the pass may end.
use Rattle.std.specs.Prelude.{◌≡◌, ℕ, ◌<◌, ◌≤◌, Bool, true, false, cond, eqb, min, List, reverse, length, get_or, slice_set, Option, Some, None}
use Rattle.flat_core.specs.declared.step.WireId.{WireId}
use Rattle.flat_core.specs.declared.step.StepId.{StepId}
use Rattle.flat_core.specs.Form.{FlatForm}
use Rattle.flat_core.specs.Label.{changes, step_at}
use Rattle.reqomp.specs.declared.pass_back.Search.{Search}
use Rattle.reqomp.specs.Simple.{has_wire}
use Rattle.reqomp.specs.Marking.{AreFirstSteps}
use Rattle.reqomp.specs.Redone.{Found}

-- the wires found are those with the newest stamp
abbrev pub AreStamped : List ℕ → ℕ → List WireId → Type 0
AreStamped stamps newest wires = (w : WireId) → eqb (get_or stamps w.number 0) newest ≡ has_wire w wires

-- no stamp is later than the newest one
abbrev pub AreOld : List ℕ → ℕ → Type 0
AreOld stamps newest = (w : WireId) → get_or stamps w.number 0 ≤ newest

-- what is kept between the passes over a form
pub record IsSearch (f : FlatForm) (search : Search) : Type 0 where
  pub first : AreFirstSteps f search.first.items
  pub as_many : length search.stamps.items ≡ length f.wires
  pub old : AreOld search.stamps.items search.newest

-- a wire, if any, is stamped where it is marked
abbrev pub stamped : List Bool → ℕ → Option WireId → List ℕ → List ℕ
stamped flags newest None stamps = stamps
stamped flags newest (Some w) stamps = cond (get_or flags w.number false) (slice_set stamps w.number newest) stamps

-- the least of a number and the first step of a marked wire, if any
abbrev pub lowered : List Bool → List ℕ → Option WireId → ℕ → ℕ
lowered flags first None low = low
lowered flags first (Some w) low = cond (get_or flags w.number false) (min low (get_or first w.number 0)) low

-- no step before this one changes one of some wires
abbrev pub IsBelow : FlatForm → ℕ → List WireId → Type 0
IsBelow f low wires = (w : WireId) (s : StepId) → has_wire w wires ≡ true → s.number < low → changes w (step_at f s) ≡ false

-- a pass stands where this was found: the stamps tell the wires, and the steps are those found, the last first
pub record HasFound (f : FlatForm) (search : Search) (low : ℕ) (steps : List StepId) (found : Found) : Type 0 where
  pub wires_are : AreStamped search.stamps.items search.newest found.wires
  pub below : IsBelow f low found.wires
  pub steps_are : reverse steps ≡ found.steps
