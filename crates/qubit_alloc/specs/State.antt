-- What a placer keeps, and what it stands for.
use Rattle.std.specs.Prelude.{◌≡◌, ℕ, ◌<◌, ◌≤◌, ◌==◌, Bool, true, false, cond, not, ◌&&◌, nat_lt, List, ◌∷◌, length, get_or, slice_set, count_by, Option, Some, None, All}
use Rattle.std.specs.List.Sorted.{IsPermutation}
use Rattle.flat_core.specs.declared.step.Step.{Step}
use Rattle.flat_core.specs.declared.step.Step.TheVariants.{X, H, P, M}
use Rattle.flat_core.specs.declared.step.WireId.{WireId}
use Rattle.flat_core.specs.Form.{FlatForm}
use Rattle.move_plan.specs.declared.moves.Move.{Move}
use Rattle.move_plan.specs.declared.moves.Move.TheVariants.{Up, Down, Do, Free}
use Rattle.move_plan.specs.Progress.{Progress}
use Rattle.flat_core.specs.Label.{main_wire, first_wire, second_wire, step_at, end_of}
use Rattle.move_plan.specs.Effect.{is_measured, number_of}
use Rattle.move_plan.specs.Live.{live, live_at_end}
use Rattle.qubit_alloc.specs.declared.track.Track.{Track}
use Rattle.qubit_alloc.specs.declared.placed.Placed.{Placed}
use Rattle.qubit_alloc.specs.Free.{FreeList}
use Rattle.qubit_alloc.specs.Place.{Place, is_taken, IsPlaced}
use Rattle.qubit_alloc.specs.PlacedMoves.{end_wire, number_in}

-- the rows of wires and steps that are kept of the moves so far
pub record HasRows (f : FlatForm) (t : Track) : Type 0 where
  pub label_rows : length t.labels.items ≡ length f.wires
  pub done_rows : length t.done.items ≡ length f.steps
  pub measured_rows : length t.measured.items ≡ length f.wires
  pub gone_rows : length t.gone.items ≡ length f.wires

-- the progress that they tell
abbrev pub told : Track → Progress
told t = record {
  label = λ w. get_or t.labels.items w.number 0;
  done = λ s. get_or t.done.items s.number false;
  measured = λ w. get_or t.measured.items w.number false;
  gone = λ w. get_or t.gone.items w.number false;
}

-- how often a number is in a list
abbrev pub times_in : List ℕ → ℕ → ℕ
times_in items j = count_by (λ x. x == j) items

-- what a placer keeps: rows of wires for labels, measured and freed ones, qubits and outcome numbers, rows of steps for
-- those done, the free qubits in no particular order, the width, and whether the untouched Output wires are placed
pub record PlacerState : Type 0 where
  pub labels : List ℕ
  pub done : List Bool
  pub measured : List Bool
  pub gone : List Bool
  pub qubits : List (Option ℕ)
  pub numbers : List ℕ
  pub free : List ℕ
  pub width : ℕ
  pub finished : Bool

abbrev pub state_of : Track → List (Option ℕ) → List ℕ → FreeList → ℕ → Bool → PlacerState
state_of t qubits numbers free width finished = record {
  labels = t.labels.items;
  done = t.done.items;
  measured = t.measured.items;
  gone = t.gone.items;
  qubits = qubits;
  numbers = numbers;
  free = free.items;
  width = width;
  finished = finished;
}

-- the progress that a placer has come to
abbrev pub progress_of : PlacerState → Progress
progress_of v = record {
  label = λ w. get_or v.labels w.number 0;
  done = λ s. get_or v.done s.number false;
  measured = λ w. get_or v.measured w.number false;
  gone = λ w. get_or v.gone w.number false;
}

-- the qubit that it tells of a wire
abbrev pub qubit_told : PlacerState → WireId → Option ℕ
qubit_told v w = get_or v.qubits w.number None

-- one row for each wire, and room for all qubits
pub record HasEvenRows (t : Track) (qubits : List (Option ℕ)) (numbers : List ℕ) (free : FreeList) (width : ℕ) : Type 0 where
  pub measured_rows : length t.measured.items ≡ length t.labels.items
  pub gone_rows : length t.gone.items ≡ length t.labels.items
  pub qubit_rows : length qubits ≡ length t.labels.items
  pub number_rows : length numbers ≡ length t.labels.items
  pub room : width ≤ free.room

-- the wires that are on stand on different qubits below the width, and each other qubit below it is free, once
pub record IsSeated (f : FlatForm) (on : WireId → Bool) (width : ℕ) (place : Place) (free : ℕ → ℕ) : Type 0 where
  pub placed : IsPlaced f on width place
  pub free_are : (j : ℕ) → free j ≡ cond (nat_lt j width && not (is_taken f on place j)) 1 0

-- a qubit is told of each wire that is on, its place, and of no other
abbrev pub TellsOf : FlatForm → (WireId → Bool) → Place → (WireId → Option ℕ) → Type 0
TellsOf f on place qubit = (w : WireId) → w.number < length f.wires → qubit w ≡ cond (on w) (Some (place w)) None

-- the wires on qubits: the live ones, and at the end all Output wires
abbrev pub on_in : FlatForm → PlacerState → WireId → Bool
on_in f v = cond v.finished (live_at_end f (progress_of v)) (live f (progress_of v))

-- a placer tells these places
abbrev pub Tells : FlatForm → PlacerState → Place → Type 0
Tells f v place = TellsOf f (on_in f v) place (qubit_told v)

-- what holds of a placer that was made for a flat form
pub record IsMadeFor (f : FlatForm) (v : PlacerState) : Type 0 where
  pub wires_are : length v.labels ≡ length f.wires
  pub steps_are : length v.done ≡ length f.steps
  pub place : Place
  pub tells : Tells f v place
  pub seated : IsSeated f (on_in f v) v.width place (times_in v.free)
  pub numbered : (w : WireId) → w.number < length f.wires → (progress_of v).measured w ≡ true → get_or v.numbers w.number 0 ≡ number_of f.steps w

-- the outcome number of a measured wire noted
abbrev pub noted_step : List ℕ → Step → List ℕ
noted_step numbers (X target first second) = numbers
noted_step numbers (H target control) = numbers
noted_step numbers (P eighths control) = numbers
noted_step numbers (M wire number) = slice_set numbers wire.number number

abbrev pub noted : List ℕ → Option Step → List ℕ
noted numbers None = numbers
noted numbers (Some step) = noted_step numbers step

-- a wire that has no qubit takes the least free one
pub record Takes (w : WireId) (qubits : List (Option ℕ)) (free : List ℕ) (qubits' : List (Option ℕ)) (free' : List ℕ) : Type 0 where
  pub qubit : ℕ
  pub row : qubits' ≡ slice_set qubits w.number (Some qubit)
  pub rest : IsPermutation free (qubit ∷ free')
  pub least : All (λ x. qubit ≤ x) free

abbrev pub Seats : Option ℕ → WireId → List (Option ℕ) → List ℕ → List (Option ℕ) → List ℕ → Type 0
Seats None w qubits free qubits' free' = Takes w qubits free qubits' free'
Seats (Some q) w qubits free qubits' free' = (qubits' ≡ qubits) × (free' ≡ free)

abbrev pub SeatsIfAny : Option WireId → List (Option ℕ) → List ℕ → List (Option ℕ) → List ℕ → Type 0
SeatsIfAny None qubits free qubits' free' = (qubits' ≡ qubits) × (free' ≡ free)
SeatsIfAny (Some w) qubits free qubits' free' = Seats (get_or qubits w.number None) w qubits free qubits' free'

-- a wire that has a qubit gives it back
abbrev pub Gives : Option ℕ → WireId → List (Option ℕ) → List ℕ → List (Option ℕ) → List ℕ → Type 0
Gives None w qubits free qubits' free' = (qubits' ≡ qubits) × (free' ≡ free)
Gives (Some q) w qubits free qubits' free' = (qubits' ≡ slice_set qubits w.number None) × IsPermutation (q ∷ free) free'

abbrev pub GivesIfAny : Option WireId → List (Option ℕ) → List ℕ → List (Option ℕ) → List ℕ → Type 0
GivesIfAny None qubits free qubits' free' = (qubits' ≡ qubits) × (free' ≡ free)
GivesIfAny (Some w) qubits free qubits' free' = Gives (get_or qubits w.number None) w qubits free qubits' free'

-- a wire, where it passes a test
abbrev pub keep_if : (WireId → Bool) → Option WireId → Option WireId
keep_if test None = None
keep_if test (Some w) = cond (test w) (Some w) None

-- a wire that is there, where another one is not
abbrev pub unless : Option WireId → Option WireId → Option WireId
unless None o = o
unless (Some w) o = None

-- the qubit told of a wire, if any
abbrev pub qubit_of : List (Option ℕ) → Option WireId → Option ℕ
qubit_of qubits None = None
qubit_of qubits (Some w) = get_or qubits w.number None

-- what is told of a step, and of a freed wire, by the rows
abbrev pub step_row : FlatForm → Move → Step → List (Option ℕ) → Placed
step_row f mv s qubits = record {
  mv = mv;
  step = Some s;
  end = end_of f (end_wire s);
  target = qubit_of qubits (main_wire s);
  first = qubit_of qubits (first_wire s);
  second = qubit_of qubits (second_wire s);
  bit = number_in s;
}

abbrev pub free_row : FlatForm → Move → WireId → List (Option ℕ) → List ℕ → Placed
free_row f mv w qubits numbers = record {
  mv = mv;
  step = None;
  end = end_of f w;
  target = qubit_of qubits (Some w);
  first = None;
  second = None;
  bit = cond (is_measured (end_of f w)) (get_or numbers w.number 0) 0;
}

abbrev pub placed_row : FlatForm → Move → List (Option ℕ) → List ℕ → Placed
placed_row f (Up s) qubits numbers = step_row f (Up s) (step_at f s) qubits
placed_row f (Down s) qubits numbers = step_row f (Down s) (step_at f s) qubits
placed_row f (Do s) qubits numbers = step_row f (Do s) (step_at f s) qubits
placed_row f (Free w) qubits numbers = free_row f (Free w) w qubits numbers
