-- The order of bit lists as texts: 0 before 1, the first bit first.
use Rattle.std.specs.Prelude.{◌≡◌, Bool, true, false, List, [], ◌∷◌, refl}
use Rattle.std.specs.Bool.{beq}
use Rattle.std.specs.Ordering.{bool_cmp, is_eq}
use Rattle.std.specs.Cmp.Lexicographic.{slice_cmp, pointwise}

-- the order ties just where the bits are the same
pub ties_are_equal : (u v : List Bool) → pointwise beq u v ≡ is_eq (slice_cmp bool_cmp u v)
ties_are_equal [] [] = refl
ties_are_equal [] (c ∷ v) = refl
ties_are_equal (b ∷ u) [] = refl
ties_are_equal (true ∷ u) (true ∷ v) = ties_are_equal u v
ties_are_equal (true ∷ u) (false ∷ v) = refl
ties_are_equal (false ∷ u) (true ∷ v) = refl
ties_are_equal (false ∷ u) (false ∷ v) = ties_are_equal u v
