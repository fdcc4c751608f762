-- Paths of a list of steps. A path is one choice bit for each H step, in step order.
use Rattle.std.specs.Prelude.{ℕ, zero, suc, ◌+◌, Bool, true, false, cond, ◌&&◌, List, length, take, count_by}
use Rattle.amp_core.specs.declared.Amp.{Amp}
use Rattle.amp_core.specs.Amplitude.{none, one, times}
use Rattle.flat_core.specs.declared.step.Step.{Step}
use Rattle.flat_core.specs.Form.{WireForm}
use Rattle.flat_core.specs.Label.{wire_id, step_id, step_in, wire_in}
use Rattle.flat_mean.specs.Row.{Row, put, next, is_h, is_possible, agrees, halvings, eighths}

-- the step with a number; past the end one that changes nothing
abbrev pub step_number : List Step → ℕ → Step
step_number steps s = step_in steps (step_id s)

-- how many of the first s steps are H steps
abbrev pub choices_at : List Step → ℕ → ℕ
choices_at steps zero = 0
choices_at steps (suc s) = choices_at steps s + cond (is_h (step_number steps s)) 1 0

-- how many choice bits a path has
abbrev pub count_choices : List Step → ℕ
count_choices steps = choices_at steps (length steps)

-- the wires' values before step s on a path
abbrev pub row_at : List Step → Row → (ℕ → Bool) → ℕ → Row
row_at steps input choice zero = input
row_at steps input choice (suc s) = next (step_number steps s) (choice (choices_at steps s)) (row_at steps input choice s)

-- the wires' values at their tops
abbrev pub top_row : List Step → Row → (ℕ → Bool) → Row
top_row steps input choice = row_at steps input choice (length steps)

-- all of the first n numbers pass the test
abbrev pub all_below : ℕ → (ℕ → Bool) → Bool
all_below zero f = true
all_below (suc n) f = all_below n f && f n

abbrev pub sum_below : ℕ → (ℕ → ℕ) → ℕ
sum_below zero f = 0
sum_below (suc n) f = sum_below n f + f n

-- whether the weight of a path is not zero
abbrev pub possible_path : List Step → Row → (ℕ → Bool) → Bool
possible_path steps input choice = all_below (length steps) (λ s. is_possible (step_number steps s) (choice (choices_at steps s)) (row_at steps input choice s))

-- whether each measured wire has the value of its outcome bit
abbrev pub path_agrees : List Step → Row → (ℕ → Bool) → (ℕ → Bool) → Bool
path_agrees steps input outcome choice = all_below (length steps) (λ s. agrees outcome (step_number steps s) (row_at steps input choice s))

abbrev pub path_halvings : List Step → Row → (ℕ → Bool) → ℕ
path_halvings steps input choice = sum_below (length steps) (λ s. halvings (step_number steps s) (row_at steps input choice s))

abbrev pub path_eighths : List Step → Row → (ℕ → Bool) → ℕ
path_eighths steps input choice = sum_below (length steps) (λ s. eighths (step_number steps s) (choice (choices_at steps s)) (row_at steps input choice s))

-- the weight of a path, the product of its factors: w to the eighths over root two to the halvings, or zero
abbrev pub path_weight : List Step → Row → (ℕ → Bool) → Amp
path_weight steps input choice = cond (possible_path steps input choice) (times (path_eighths steps input choice) (path_halvings steps input choice) one) none

-- the sum over all choices of the first m bits
abbrev pub sum_choices : {S : Type 0} → (S → S → S) → ℕ → ((ℕ → Bool) → S) → S
sum_choices plus zero f = f (λ _. false)
sum_choices plus (suc m) f = plus (sum_choices plus m (λ c. f (put m false c))) (sum_choices plus m (λ c. f (put m true c)))

-- how many of the first n wires are inputs
abbrev pub inputs_before : List WireForm → ℕ → ℕ
inputs_before wires n = count_by (λ w. w.input) (take n wires)

abbrev pub count_inputs : List WireForm → ℕ
count_inputs wires = count_by (λ w. w.input) wires

-- the row with which a path begins: the inputs have the input bits in the order of their numbers, all other wires 0
abbrev pub input_row : List WireForm → (ℕ → Bool) → Row
input_row wires input = λ q. (wire_in wires (wire_id q)).input && input (inputs_before wires q)
