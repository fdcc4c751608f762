-- Valid lists of moves, told by how far the moves have come.
use Rattle.std.specs.Prelude.{◌≡◌, ℕ, suc, pred, ◌<◌, Bool, true, false, cond, ◌||◌, eqb, List, [], ◌∷◌, length, Contains, ⊤}
use Rattle.flat_core.specs.declared.step.WireId.{WireId}
use Rattle.flat_core.specs.declared.step.StepId.{StepId}
use Rattle.flat_core.specs.declared.step.End.TheVariants.{Measured}
use Rattle.flat_core.specs.Form.{FlatForm}
use Rattle.flat_core.specs.Label.{changes, used, same_wire, step_at, end_of, top, label_before}
use Rattle.flat_core.specs.Ends.{dropped, freed, undone, measures}
use Rattle.move_plan.specs.declared.moves.Move.{Move}
use Rattle.move_plan.specs.declared.moves.Move.TheVariants.{Up, Down, Do, Free}

-- the label of each wire, the steps done by Do, and the wires measured and freed
pub record Progress : Type 0 where
  pub label : WireId → ℕ
  pub done : StepId → Bool
  pub measured : WireId → Bool
  pub gone : WireId → Bool

abbrev pub at_start : Progress
at_start = record { label = λ w. 0; done = λ s. false; measured = λ w. false; gone = λ w. false }

-- the label of a wire after one more move: Up and Do raise it where the step changes the wire, and Down lowers it
abbrev pub label_moved : FlatForm → WireId → ℕ → Move → ℕ
label_moved f w label (Up s) = cond (changes w (step_at f s)) (suc label) label
label_moved f w label (Down s) = cond (changes w (step_at f s)) (pred label) label
label_moved f w label (Do s) = cond (changes w (step_at f s)) (suc label) label
label_moved f w label (Free x) = label

-- the step that a move does, the wire that it measures, and the wire that it frees
abbrev pub marks_done : Move → StepId → Bool
marks_done (Up t) s = false
marks_done (Down t) s = false
marks_done (Do t) s = eqb s.number t.number
marks_done (Free w) s = false

abbrev pub marks_measured : FlatForm → Move → WireId → Bool
marks_measured f (Up s) w = false
marks_measured f (Down s) w = false
marks_measured f (Do s) w = measures w (step_at f s)
marks_measured f (Free x) w = false

abbrev pub marks_gone : Move → WireId → Bool
marks_gone (Up s) w = false
marks_gone (Down s) w = false
marks_gone (Do s) w = false
marks_gone (Free x) w = same_wire w x

-- the progress after a move
abbrev pub moved : FlatForm → Progress → Move → Progress
moved f p m = record {
  label = λ w. label_moved f w (p.label w) m;
  done = λ s. marks_done m s || p.done s;
  measured = λ w. marks_measured f m w || p.measured w;
  gone = λ w. marks_gone m w || p.gone w;
}

-- a wire is at a label, and not freed
pub record StandsAt (p : Progress) (w : WireId) (label : ℕ) : Type 0 where
  pub at : p.label w ≡ label
  pub kept : p.gone w ≡ false

-- each wire that a step names is at the label that it had before the step, and what the step changes at one told by it
pub record StepStands (f : FlatForm) (p : Progress) (s : StepId) (target : ℕ → ℕ) : Type 0 where
  pub step : s.number < length f.steps
  pub uses : (w : WireId) → Contains (used (step_at f s)) w → StandsAt p w (label_before f s w)
  pub changed : (w : WireId) → changes w (step_at f s) ≡ true → StandsAt p w (target (label_before f s w))

-- a Measured or Zeroed wire is at its top, not yet freed, and measured if it is a Measured one
pub record FreeStands (f : FlatForm) (p : Progress) (w : WireId) : Type 0 where
  pub ending : freed f w ≡ true
  pub at_top : StandsAt p w (top f w)
  pub measured : end_of f w ≡ Measured → p.measured w ≡ true

-- a move may come next: Up and Down of steps that are undone again, Do of each other step for the first time
abbrev pub Stands : FlatForm → Progress → Move → Type 0
Stands f p (Up s) = (undone f s ≡ true) × StepStands f p s (λ n. n)
Stands f p (Down s) = (undone f s ≡ true) × StepStands f p s suc
Stands f p (Do s) = (undone f s ≡ false) × (p.done s ≡ false) × StepStands f p s (λ n. n)
Stands f p (Free w) = FreeStands f p w

-- each move may come when it comes
abbrev pub AllStand : FlatForm → Progress → List Move → Type 0
AllStand f p [] = ⊤
AllStand f p (m ∷ rest) = Stands f p m × AllStand f (moved f p m) rest

abbrev pub progress : FlatForm → Progress → List Move → Progress
progress f p [] = p
progress f p (m ∷ rest) = progress f (moved f p m) rest

-- where a list of moves may end
pub record IsEnd (f : FlatForm) (p : Progress) : Type 0 where
  pub all_done : (s : StepId) → s.number < length f.steps → undone f s ≡ false → p.done s ≡ true
  pub at_bottom : (w : WireId) → w.number < length f.wires → dropped f w ≡ true → p.label w ≡ 0
  pub at_top : (w : WireId) → w.number < length f.wires → dropped f w ≡ false → p.label w ≡ top f w
  pub all_gone : (w : WireId) → freed f w ≡ true → p.gone w ≡ true

-- a valid list of moves
pub record IsPlan (f : FlatForm) (moves : List Move) : Type 0 where
  pub stand : AllStand f at_start moves
  pub end : IsEnd f (progress f at_start moves)
