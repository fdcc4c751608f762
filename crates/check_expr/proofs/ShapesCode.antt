-- The types as the code tells them.
use Rattle.std.specs.Prelude.{List, ◌++◌, Option, option_map, ℤ}

-- the values, and those behind them where there are such
abbrev pub behind : List ℤ → Option (List ℤ) → Option (List ℤ)
behind vs o = option_map (λ ws. vs ++ ws) o
