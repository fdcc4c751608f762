-- For how many single terms the rows of a run stand.
use Rattle.std.specs.Prelude.{ℕ, ◌+◌, ◌^◌, ◌≤◌, Bool, List}
use Rattle.amp_core.specs.declared.Amp.{Amp}
use Rattle.sum_laws.specs.Units.{StandsFor}

-- the rows stand for at most 2^h single terms of h halvings, and h and so many more are at most 50
pub record HasRoom (more : ℕ) (rows : List (List Bool × Amp)) : Type 0 where
  pub halvings : ℕ
  pub stands : StandsFor (2 ^ halvings) halvings rows
  pub few : halvings + more ≤ 50
