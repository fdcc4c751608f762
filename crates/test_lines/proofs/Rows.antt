-- What some lines spell, by computing.
use Rattle.std.proofs.Common.{◌≡◌, [], ◌∷◌, ◌++◌, refl}
use Rattle.std.specs.Prelude.{codes}
use Rattle.std.specs.Str.{chars}
use Rattle.test_lines.specs.Spelled.{row_text}
use lib.Utf8.{encode}

-- `a\n`, which is `a` and a line feed, twice
twice : row_text (codes "2*a" ++ 92 ∷ 110 ∷ []) ≡ 97 ∷ 10 ∷ 97 ∷ 10 ∷ []
unfolding chars encode
twice = refl

-- numbers
with_plus : row_text (codes "+03*ab") ≡ codes "ababab"
unfolding chars encode
with_plus = refl

none_of_it : row_text (codes "0*ab") ≡ []
unfolding chars encode
none_of_it = refl

second_star : row_text (codes "2*3*") ≡ codes "3*3*"
unfolding chars encode
second_star = refl

-- and none
no_digit : row_text (codes "*a") ≡ codes "*a"
unfolding chars encode
no_digit = refl

plus_alone : row_text (codes "+*a") ≡ codes "+*a"
unfolding chars encode
plus_alone = refl

minus : row_text (codes "-2*a") ≡ codes "-2*a"
unfolding chars encode
minus = refl

blank : row_text (codes "2 *a") ≡ codes "2 *a"
unfolding chars encode
blank = refl

too_large : row_text (codes "4294967296*a") ≡ codes "4294967296*a"
unfolding chars encode
too_large = refl

no_star : row_text (codes "12") ≡ codes "12"
unfolding chars encode
no_star = refl
