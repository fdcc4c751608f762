-- What updates do to values.
use Rattle.std.proofs.Common.{◌≡◌, ◌<◌, length, arith, false, ℕ, List, [], ◌∷◌, ◌==◌, ◌&&◌, refl, ap}
use Rattle.std.specs.Cmp.Lexicographic.{pointwise}
use Rattle.std.specs.Prelude.{nat_eq}
use Rattle.silq_tree.specs.declared.node.BinaryOp.TheVariants.{Add, Sub}
use Rattle.silq_tree.specs.declared.node.UpdateOp.TheVariants as updates
use Rattle.silq_mean.specs.Value.{Value, whole, single, array, gone, of_two_typed, update_typed, all_equal, equal_values, all_exclusive_or}

pub added : (v w : Value) → of_two_typed Add v w ≡ update_typed updates.Add v w
added (whole z) w = refl
added (array k xs) w = refl
added gone w = refl
added (single k a) (whole z) = refl
added (single k a) (single j b) = refl
added (single k a) (array j ys) = refl
added (single k a) gone = refl

pub subtracted : (v w : Value) → of_two_typed Sub v w ≡ update_typed updates.Sub v w
subtracted (whole z) w = refl
subtracted (array k xs) w = refl
subtracted gone w = refl
subtracted (single k a) (whole z) = refl
subtracted (single k a) (single j b) = refl
subtracted (single k a) (array j ys) = refl
subtracted (single k a) gone = refl

pub same_items : (xs ys : List ℕ) → pointwise nat_eq xs ys ≡ all_equal xs ys
same_items [] [] = refl
same_items [] (y ∷ ys) = refl
same_items (x ∷ xs) [] = refl
same_items (x ∷ xs) (y ∷ ys) = ap (λ b. (x == y) && b) (same_items xs ys)

no_more : (n : ℕ) (xs : List ℕ) → all_exclusive_or n xs [] ≡ []
no_more n [] = refl
no_more n (x ∷ xs) = refl

pub gone_unequal : (v : Value) → equal_values v gone ≡ false
gone_unequal (whole z) = refl
gone_unequal (single k a) = refl
gone_unequal (array k xs) = refl
gone_unequal gone = refl

pub none_left : (n : ℕ) (xs ys : List ℕ) → length ys < 1 → all_exclusive_or n xs ys ≡ []
none_left n xs [] h = no_more n xs
none_left n xs (y ∷ ys) h = absurd (omega (arith, h))
