-- The laws of paths, as statements.
use Rattle.std.specs.Prelude.{◌≡◌, ◌↔◌, ℕ, Bool, true, false, cond, ◌&&◌, List, [], ◌∷◌}
use Rattle.amp_core.specs.declared.Amp.{Amp}
use Rattle.amp_core.specs.Amplitude.{none, one, plus, times}
use Rattle.sum_laws.specs.Terms.{same_bits, amplitude}
use Rattle.flat_core.specs.declared.step.Step.{Step}
use Rattle.flat_core.specs.declared.step.WireId.{WireId}
use Rattle.flat_mean.specs.Row.{Row}
use Rattle.flat_mean.specs.Path.{count_choices, top_row, possible_path, path_agrees, path_halvings, path_eighths, path_weight, sum_choices}
use Rattle.flat_mean.specs.Terms.{Term, first_term, do_steps, total, values_of, seen_at}

-- a path that counts: its weight is not zero and it agrees with the outcome bits
abbrev pub counts : List Step → Row → (ℕ → Bool) → (ℕ → Bool) → Bool
counts steps input outcome choice = possible_path steps input choice && path_agrees steps input outcome choice

-- a path's values at the tops, with its weight
abbrev pub top_term : List Step → Row → (ℕ → Bool) → Term
top_term steps input choice = record { row = top_row steps input choice; halvings = path_halvings steps input choice; eighths = path_eighths steps input choice }

-- the steps one by one give, whatever one adds up over the terms, what the paths that count give
abbrev pub StepsGivePaths : Type 0
StepsGivePaths =
    (steps : List Step) (input : Row) (outcome : ℕ → Bool) (g : Term → Amp)
    → total none plus g (do_steps outcome steps (first_term input ∷ []))
    ≡ sum_choices plus (count_choices steps) (λ c. cond (counts steps input outcome c) (g (top_term steps input c)) none)

-- whether a path agrees with the outcome bits and gives these values to some wires at their tops
abbrev pub gives : List Step → Row → (ℕ → Bool) → List WireId → List Bool → (ℕ → Bool) → Bool
gives steps input outcome wires values choice = path_agrees steps input outcome choice && same_bits (values_of wires (top_row steps input choice)) values

-- the sum of the weights of the paths that agree with the outcome bits and give these values to some wires at their tops
abbrev pub path_amplitude : List Step → Row → (ℕ → Bool) → List WireId → List Bool → Amp
path_amplitude steps input outcome wires values =
    sum_choices plus (count_choices steps) (λ c. cond (gives steps input outcome wires values c) (path_weight steps input c) none)

-- the steps one by one give to each value of some wires the sum of the weights of the agreeing paths that have it
abbrev pub StepsGiveAmplitudes : Type 0
StepsGiveAmplitudes =
    (steps : List Step) (input : Row) (outcome : ℕ → Bool) (wires : List WireId) (values : List Bool)
    → amplitude values (seen_at wires (do_steps outcome steps (first_term input ∷ [])))
    ≡ path_amplitude steps input outcome wires values

-- a path's weight is zero exactly where the path is impossible, and else the power of w over the power of root two that
-- its steps add up to
pub record WeightTells (steps : List Step) (input : Row) (choice : ℕ → Bool) : Type 0 where
  pub zero_if_not_possible : (path_weight steps input choice ≡ none) ↔ (possible_path steps input choice ≡ false)
  pub factor_if_possible : possible_path steps input choice ≡ true → path_weight steps input choice ≡ times (path_eighths steps input choice) (path_halvings steps input choice) one

abbrev pub WeightsTellPossible : Type 0
WeightsTellPossible = (steps : List Step) (input : Row) (choice : ℕ → Bool) → WeightTells steps input choice
