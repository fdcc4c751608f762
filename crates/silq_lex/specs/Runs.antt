-- The characters at the front that pass a test, and those behind them.
use Rattle.std.specs.Prelude.{ℕ, Bool, List, [], ◌∷◌, cond}

abbrev pub run : (ℕ → Bool) → List ℕ → List ℕ
run test [] = []
run test (c ∷ cs) = cond (test c) (c ∷ run test cs) []

abbrev pub past : (ℕ → Bool) → List ℕ → List ℕ
past test [] = []
past test (c ∷ cs) = cond (test c) (past test cs) (c ∷ cs)
