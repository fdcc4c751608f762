-- The factor of the first steps of a path, as it is added up.
use Rattle.std.specs.Prelude.{◌≡◌, ℕ, ◌%◌, ◌≤◌, Bool, List}
use Rattle.flat_core.specs.declared.step.Step.{Step}
use Rattle.flat_mean.specs.declared.path.Factor.{Factor}
use Rattle.flat_mean.specs.Row.{Row, is_possible, halvings, eighths}
use Rattle.flat_mean.specs.Path.{step_number, choices_at, row_at, all_below, sum_below}

-- the factor of one step
pub record IsStepFactor (s : Step) (bit : Bool) (row : Row) (factor : Factor) : Type 0 where
  pub possible_is : factor.possible ≡ is_possible s bit row
  pub eighths_are : factor.eighths ≡ eighths s bit row
  pub halvings_are : factor.halvings ≡ halvings s row

-- the factor of the first n steps; of eight eighths nothing is kept
pub record IsFactor (steps : List Step) (input : Row) (choice : ℕ → Bool) (n : ℕ) (factor : Factor) : Type 0 where
  pub possible_is : factor.possible ≡ all_below n (λ s. is_possible (step_number steps s) (choice (choices_at steps s)) (row_at steps input choice s))
  pub eighths_are : factor.eighths ≡ sum_below n (λ s. eighths (step_number steps s) (choice (choices_at steps s)) (row_at steps input choice s)) % 8
  pub halvings_are : factor.halvings ≡ sum_below n (λ s. halvings (step_number steps s) (row_at steps input choice s))
  pub few_halvings : factor.halvings ≤ choices_at steps n
