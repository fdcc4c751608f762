-- Valid lists of moves, told by the moves before each move.
use Rattle.std.specs.Prelude.{◌≡◌, ◌↔◌, ℕ, suc, ◌<◌, true, false, List, [], ◌∷◌, ◌++◌, length, Contains, fold, ⊤}
use Rattle.flat_core.specs.declared.step.WireId.{WireId}
use Rattle.flat_core.specs.declared.step.StepId.{StepId}
use Rattle.flat_core.specs.declared.step.End.TheVariants.{Measured}
use Rattle.flat_core.specs.Form.{FlatForm}
use Rattle.flat_core.specs.Label.{changes, used, step_at, end_of, top, label_before}
use Rattle.flat_core.specs.Ends.{dropped, freed, undone, measures}
use Rattle.move_plan.specs.declared.moves.Move.{Move}
use Rattle.move_plan.specs.declared.moves.Move.TheVariants.{Up, Down, Do, Free}
use Rattle.move_plan.specs.Progress.{label_moved, IsPlan}

-- the label of a wire after some moves
abbrev pub label_now : FlatForm → List Move → WireId → ℕ
label_now f moves w = fold (label_moved f w) 0 moves

-- after some moves a wire is at a label, and not freed
pub record IsAt (f : FlatForm) (past : List Move) (w : WireId) (label : ℕ) : Type 0 where
  pub at : label_now f past w ≡ label
  pub kept : ¬ Contains past (Free w)

-- each wire that a step uses is at the label that it had before the step
abbrev pub HasUsed : FlatForm → List Move → StepId → Type 0
HasUsed f past s = (w : WireId) → Contains (used (step_at f s)) w → IsAt f past w (label_before f s w)

-- the wire that a step changes is at the label that it had before the step, or after it
abbrev pub HasTargetBefore : FlatForm → List Move → StepId → Type 0
HasTargetBefore f past s = (w : WireId) → changes w (step_at f s) ≡ true → IsAt f past w (label_before f s w)

abbrev pub HasTargetAfter : FlatForm → List Move → StepId → Type 0
HasTargetAfter f past s = (w : WireId) → changes w (step_at f s) ≡ true → IsAt f past w (suc (label_before f s w))

pub record IsUp (f : FlatForm) (past : List Move) (s : StepId) : Type 0 where
  pub step : s.number < length f.steps
  pub again : undone f s ≡ true
  pub uses : HasUsed f past s
  pub target : HasTargetBefore f past s

pub record IsDown (f : FlatForm) (past : List Move) (s : StepId) : Type 0 where
  pub step : s.number < length f.steps
  pub again : undone f s ≡ true
  pub uses : HasUsed f past s
  pub target : HasTargetAfter f past s

pub record IsDo (f : FlatForm) (past : List Move) (s : StepId) : Type 0 where
  pub step : s.number < length f.steps
  pub lasting : undone f s ≡ false
  pub first : ¬ Contains past (Do s)
  pub uses : HasUsed f past s
  pub target : HasTargetBefore f past s

-- one of some moves is the measure of a wire
pub record MeasuredIn (f : FlatForm) (past : List Move) (w : WireId) : Type 0 where
  pub step : StepId
  pub there : step.number < length f.steps
  pub of : measures w (step_at f step) ≡ true
  pub in_past : Contains past (Do step)

pub record IsFree (f : FlatForm) (past : List Move) (w : WireId) : Type 0 where
  pub ending : freed f w ≡ true
  pub at_top : IsAt f past w (top f w)
  pub measured : end_of f w ≡ Measured → MeasuredIn f past w

-- whether a move may follow some moves
abbrev pub IsAllowed : FlatForm → List Move → Move → Type 0
IsAllowed f past (Up s) = IsUp f past s
IsAllowed f past (Down s) = IsDown f past s
IsAllowed f past (Do s) = IsDo f past s
IsAllowed f past (Free w) = IsFree f past w

-- after some moves, each move of a list is allowed in its turn
abbrev pub AreAllowed : FlatForm → List Move → List Move → Type 0
AreAllowed f past [] = ⊤
AreAllowed f past (m ∷ rest) = IsAllowed f past m × AreAllowed f (past ++ m ∷ []) rest

-- the moves reach their end
pub record IsDone (f : FlatForm) (moves : List Move) : Type 0 where
  pub all_done : (s : StepId) → s.number < length f.steps → undone f s ≡ false → Contains moves (Do s)
  pub at_bottom : (w : WireId) → w.number < length f.wires → dropped f w ≡ true → label_now f moves w ≡ 0
  pub at_top : (w : WireId) → w.number < length f.wires → dropped f w ≡ false → label_now f moves w ≡ top f w
  pub all_freed : (w : WireId) → freed f w ≡ true → Contains moves (Free w)

pub record IsValid (f : FlatForm) (moves : List Move) : Type 0 where
  pub allowed : AreAllowed f [] moves
  pub done : IsDone f moves

-- both forms say the same
abbrev pub FormsAgree : Type 0
FormsAgree = (f : FlatForm) (moves : List Move) → IsValid f moves ↔ IsPlan f moves
