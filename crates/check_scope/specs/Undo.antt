-- Variables as they were before changes: each change has the number of a variable and what it was.
use Rattle.std.specs.Prelude.{ℕ, suc, ◌<◌, ◌∷◌, ◌++◌, List, [], take, drop}
use Rattle.silq_types.specs.declared.values.Var.{Var}

-- the variables with this one at a number
abbrev pub set_at : List Var → ℕ → Var → List Var
set_at vars i v = take i vars ++ v ∷ drop (suc i) vars

-- the latest change, which is the last, is undone first
abbrev pub undone : List Var → List (ℕ × Var) → List Var
undone vars [] = vars
undone vars (j ∷ js) = set_at (undone vars js) j.0 j.1

-- each changes one of the first n variables
abbrev pub AreBelow : ℕ → List (ℕ × Var) → Type 0
AreBelow n [] = Unit {0}
AreBelow n (j ∷ js) = (j.0 < n) × AreBelow n js
