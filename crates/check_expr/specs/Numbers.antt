-- Whole numbers by their distance.
use Rattle.std.specs.Prelude.{ℕ, ℤ, pos, negsuc}

-- the number, or where it is below 0, how far it is below -1
abbrev pub magnitude_of : ℤ → ℕ
magnitude_of (pos n) = n
magnitude_of (negsuc n) = n
