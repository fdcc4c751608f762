-- The order of bit lists as texts is a strict order of all of them, and the one that their comparison answers by.
use Rattle.std.proofs.Common.{◌≡◌, Bool, true, false, not, ◌&&◌, List, [], ◌∷◌, refl, sym, subst, inl, inr}
use Rattle.std.specs.Ordering.{bool_cmp, is_lt}
use Rattle.std.specs.Cmp.Lexicographic.{slice_cmp, pointwise}
use Rattle.std.specs.Bool.{beq}
use Rattle.sum_laws.specs.Terms.{same_bits}
use Rattle.sum_laws.specs.Table.{bits_below}
use Rattle.sum_laws.proofs.TermLists.{same_bits-equal}
use Rattle.sum_laws.proofs.Linear.{bool_cases}

pub below_itself : (u : List Bool) → bits_below u u ≡ false
below_itself [] = refl
below_itself (true ∷ u) = below_itself u
below_itself (false ∷ u) = below_itself u

pub below_trans : (u v w : List Bool) → bits_below u v ≡ true → bits_below v w ≡ true → bits_below u w ≡ true
below_trans [] [] w h k = cc
below_trans [] (c ∷ v) [] h k = cc
below_trans [] (c ∷ v) (d ∷ w) h k = refl
below_trans (b ∷ u) [] w h k = cc
below_trans (b ∷ u) (c ∷ v) [] h k = cc
below_trans (false ∷ u) (false ∷ v) (false ∷ w) h k = below_trans u v w h k
below_trans (false ∷ u) (false ∷ v) (true ∷ w) h k = refl
below_trans (false ∷ u) (true ∷ v) (false ∷ w) h k = cc
below_trans (false ∷ u) (true ∷ v) (true ∷ w) h k = refl
below_trans (true ∷ u) (false ∷ v) (d ∷ w) h k = cc
below_trans (true ∷ u) (true ∷ v) (false ∷ w) h k = cc
below_trans (true ∷ u) (true ∷ v) (true ∷ w) h k = below_trans u v w h k

-- what is not below and not the same is above
pub above_from : (u v : List Bool) → bits_below u v ≡ false → same_bits u v ≡ false → bits_below v u ≡ true
above_from [] [] h k = cc
above_from [] (c ∷ v) h k = cc
above_from (b ∷ u) [] h k = refl
above_from (false ∷ u) (false ∷ v) h k = above_from u v h k
above_from (false ∷ u) (true ∷ v) h k = cc
above_from (true ∷ u) (false ∷ v) h k = refl
above_from (true ∷ u) (true ∷ v) h k = above_from u v h k

pub not_same_from_below : (u v : List Bool) → bits_below u v ≡ true → same_bits u v ≡ false
not_same_from_below [] [] h = cc
not_same_from_below [] (c ∷ v) h = refl
not_same_from_below (b ∷ u) [] h = cc
not_same_from_below (false ∷ u) (false ∷ v) h = not_same_from_below u v h
not_same_from_below (false ∷ u) (true ∷ v) h = refl
not_same_from_below (true ∷ u) (false ∷ v) h = cc
not_same_from_below (true ∷ u) (true ∷ v) h = not_same_from_below u v h

pub same_bits_sym : (u v : List Bool) → same_bits u v ≡ same_bits v u
same_bits_sym [] [] = refl
same_bits_sym [] (c ∷ v) = refl
same_bits_sym (b ∷ u) [] = refl
same_bits_sym (false ∷ u) (false ∷ v) = same_bits_sym u v
same_bits_sym (false ∷ u) (true ∷ v) = refl
same_bits_sym (true ∷ u) (false ∷ v) = refl
same_bits_sym (true ∷ u) (true ∷ v) = same_bits_sym u v

-- a value that is not below an upper one is above a lower one
pub below_upper : (u v w : List Bool) → bits_below u v ≡ true → bits_below w v ≡ false → bits_below u w ≡ true
below_upper u v w h k =
    elim (bool_cases (same_bits w v)) [
      | inl e ↦ subst (λ x. bits_below u x ≡ true) (sym (same_bits-equal w v e)) h
      | inr e ↦ below_trans u v w h (above_from w v k e)
    ]

-- the comparison of std answers `Less` just where the first is below
pub is_lt-text_order : (u v : List Bool) → is_lt (slice_cmp bool_cmp u v) ≡ bits_below u v
is_lt-text_order [] [] = refl
is_lt-text_order [] (c ∷ v) = refl
is_lt-text_order (b ∷ u) [] = refl
is_lt-text_order (false ∷ u) (false ∷ v) = is_lt-text_order u v
is_lt-text_order (false ∷ u) (true ∷ v) = refl
is_lt-text_order (true ∷ u) (false ∷ v) = refl
is_lt-text_order (true ∷ u) (true ∷ v) = is_lt-text_order u v

-- neither is below the other just where they are the same
pub ties-same_bits : (u v : List Bool) → (not (is_lt (slice_cmp bool_cmp u v)) && not (is_lt (slice_cmp bool_cmp v u))) ≡ same_bits v u
ties-same_bits [] [] = refl
ties-same_bits [] (c ∷ v) = refl
ties-same_bits (b ∷ u) [] = refl
ties-same_bits (false ∷ u) (false ∷ v) = ties-same_bits u v
ties-same_bits (false ∷ u) (true ∷ v) = refl
ties-same_bits (true ∷ u) (false ∷ v) = refl
ties-same_bits (true ∷ u) (true ∷ v) = ties-same_bits u v

-- the test of std's `==` of two lists of bits
pub pointwise-same_bits : (u v : List Bool) → pointwise beq u v ≡ same_bits u v
pointwise-same_bits [] [] = refl
pointwise-same_bits [] (c ∷ v) = refl
pointwise-same_bits (b ∷ u) [] = refl
pointwise-same_bits (true ∷ u) (true ∷ v) = pointwise-same_bits u v
pointwise-same_bits (true ∷ u) (false ∷ v) = refl
pointwise-same_bits (false ∷ u) (true ∷ v) = refl
pointwise-same_bits (false ∷ u) (false ∷ v) = pointwise-same_bits u v
