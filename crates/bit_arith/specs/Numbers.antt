-- Numbers and their bits, low bit first.
use Rattle.std.specs.Prelude.{ℕ, zero, suc, ◌+◌, ◌-◌, ◌*◌, ◌^◌, ◌/◌, ◌%◌, Bool, true, false, ◌==◌, if◌then◌else◌, nat_lt, nat_le, int_lt, List, [], ◌∷◌, ℤ, pos, ◌-ℤ◌}

-- the number of a list of bits
abbrev pub number : List Bool → ℕ
number [] = 0
number (b ∷ bs) = (if b then 1 else 0) + 2 * number bs

-- the n low bits of a number
abbrev pub low_bits : ℕ → ℕ → List Bool
low_bits zero a = []
low_bits (suc n) a = (a % 2 == 1) ∷ low_bits n (a / 2)

-- whether a + b carries into a place: the sum of the bits below it does not fit below it
abbrev pub carries_into : ℕ → ℕ → ℕ → Bool
carries_into place a b = nat_le (2 ^ place) (a % 2 ^ place + b % 2 ^ place)

-- the value by two's complement of a number of n bits
abbrev pub signed_value : ℕ → ℕ → ℤ
signed_value n a = if nat_lt a (2 ^ (n - 1)) then pos a else (pos a -ℤ pos (2 ^ n))

-- whether a is below b, as numbers of n bits with or without a sign
abbrev pub is_below : Bool → ℕ → ℕ → ℕ → Bool
is_below true n a b = int_lt (signed_value n a) (signed_value n b)
is_below false n a b = nat_lt a b
