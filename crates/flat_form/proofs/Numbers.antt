-- Numbers and their bits: those of values are those of the rows.
use Rattle.std.proofs.Common.{◌≡◌, ℕ, zero, suc, ◌+◌, ◌*◌, ◌^◌, ◌%◌, ◌/◌, ◌<◌, Bool, not, List, [], ◌∷◌, length, refl, sym, ap, ◌∙◌, subst, arith, pow_pos, mod-lt}
use Rattle.std.specs.Prelude.{ℤ, pos, negsuc, nat_lt, int_lt, int_le, nat_le, ◌==◌, if◌then◌else◌}
use mathlib.Core.Logic.{inl, inr}
use Rattle.std.proofs.lemmas.Bool.{cases_lt, lt-leb, le-leb, lt-ltb, le-ltb}
use Rattle.silq_types.specs.declared.types.Scalar.{Scalar}
use Rattle.silq_types.specs.declared.types.Scalar.TheVariants as scalars
use Rattle.silq_types.specs.Types.{single_shape, scalar_bits}
use Rattle.silq_mean.specs.Value.{modulus, modulo, by_type, low_bits, number_of}
use Rattle.bit_arith.specs.Numbers.{number, low_bits as row_bits}
use Rattle.bit_arith.proofs.Adder.{number_low, low_number, number_below}
use Rattle.bit_arith.specs.Numbers.{is_below}
use Rattle.flat_form.specs.State.{is_signed}

pub number_same : (bs : List Bool) → number bs ≡ number_of bs
number_same [] = refl
number_same (b ∷ bs) = ap (λ n. (if b then 1 else 0) + 2 * n) (number_same bs)

pub low_same : (n a : ℕ) → row_bits n a ≡ low_bits n a
low_same zero a = refl
low_same (suc n) a = ap (λ bs. (a % 2 == 1) ∷ bs) (low_same n (a / 2))

pub low_length : (n a : ℕ) → length (low_bits n a) ≡ n
low_length zero a = refl
low_length (suc n) a = ap suc (low_length n (a / 2))

-- the number of the low bits of a number below 2^n is that number
pub number_of_low : (n a : ℕ) → a < 2 ^ n → number_of (low_bits n a) ≡ a
number_of_low n a h = ap number_of (sym (low_same n a)) ∙ (sym (number_same (row_bits n a)) ∙ number_low n a h)

pub row_number_low : (n a : ℕ) → a < 2 ^ n → number (low_bits n a) ≡ a
row_number_low n a h = number_same (low_bits n a) ∙ number_of_low n a h

pub below_length : (bs : List Bool) → number_of bs < 2 ^ length bs
below_length bs = subst (λ n. n < 2 ^ length bs) (number_same bs) (number_below bs)

-- the low bits of the number of some bits are these bits
pub low_of_number : (n : ℕ) (bs : List Bool) → length bs ≡ n → low_bits n (number_of bs) ≡ bs
low_of_number n bs l = sym (low_same n (number_of bs)) ∙ sym (low_number bs n (number_of bs) l (number_same bs))

-- bits with a number are its low bits
pub bits_with_number : (n a : ℕ) (bs : List Bool) → length bs ≡ n → number bs ≡ a → bs ≡ low_bits n a
bits_with_number n a bs l e = low_number bs n a l e ∙ low_same n a

-- numbers below 2^n with the same bits are the same
pub low_one : (n a b : ℕ) → a < 2 ^ n → b < 2 ^ n → low_bits n a ≡ low_bits n b → a ≡ b
low_one n a b h k e = sym (number_of_low n a h) ∙ (ap number_of e ∙ number_of_low n b k)

-- ---- types

pub modulus_pos : (k : Scalar) → 0 < modulus k
modulus_pos k = pow_pos (scalar_bits k)

pub modulo_below : (z : ℤ) (m : ℕ) → 0 < m → modulo z m < m
modulo_below (pos n) m h = mod-lt n {m = m} h
modulo_below (negsuc n) m h = let l : n % m < m = mod-lt n {m = m} h in omega (arith, l)

pub rest_below : (k : Scalar) (a : ℕ) → a % modulus k < modulus k
rest_below k a = mod-lt a {m = modulus k} (modulus_pos k)

-- ---- orders

lt_pos : (a b : ℕ) → nat_lt a b ≡ int_lt (pos a) (pos b)
lt_pos a b = refl

-- the order by a type is that of the row
pub below_by_type : (k : Scalar) (a b : ℕ) → is_below (is_signed (single_shape k)) (scalar_bits k) a b ≡ int_lt (by_type k a) (by_type k b)
below_by_type scalars.Bit a b = lt_pos a b
below_by_type (scalars.UInt n) a b = lt_pos a b
below_by_type (scalars.Int n) a b = refl

le_lt_nat : (a b : ℕ) → nat_le a b ≡ not (nat_lt b a)
le_lt_nat a b = elim (cases_lt b a) [ inl h ↦ lt-leb a b h ∙ ap not (sym (lt-ltb b a h)) | inr h ↦ le-leb a b h ∙ ap not (sym (le-ltb b a h)) ]

pub le_not_lt : (x y : ℤ) → int_le x y ≡ not (int_lt y x)
le_not_lt (pos a) (pos b) = le_lt_nat a b
le_not_lt (pos a) (negsuc b) = refl
le_not_lt (negsuc a) (pos b) = refl
le_not_lt (negsuc a) (negsuc b) = le_lt_nat b a
