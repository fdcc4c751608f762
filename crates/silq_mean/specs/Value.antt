-- Values: numbers and lists of numbers with their types, and what operators do to them.
use Rattle.std.specs.Prelude.{ℕ, zero, suc, ◌+◌, ◌-◌, ◌*◌, ◌/◌, ◌%◌, ◌^◌, Bool, true, false, not, ◌&&◌, ◌||◌, ◌==◌, if◌then◌else◌, List, [], ◌∷◌, flat_map, get_or, set, replicate, take, drop, ℤ, pos, negsuc, ◌-ℤ◌, nat_abs, int_lt, int_le, nat_lt}
use Rattle.silq_tree.specs.declared.node.UnaryOp.{UnaryOp}
use Rattle.silq_tree.specs.declared.node.UnaryOp.TheVariants.{Not, Neg}
use Rattle.silq_tree.specs.declared.node.BinaryOp.{BinaryOp}
use Rattle.silq_tree.specs.declared.node.BinaryOp.TheVariants.{Or, And, Eq, Ne, Lt, Le, Gt, Ge, Add, Sub, Mul, Div}
use Rattle.silq_tree.specs.declared.node.UpdateOp.{UpdateOp}
use Rattle.silq_tree.specs.declared.node.UpdateOp.TheVariants as updates
use Rattle.silq_types.specs.declared.types.Scalar.{Scalar}
use Rattle.silq_types.specs.declared.types.Scalar.TheVariants as scalars
use Rattle.silq_types.specs.declared.types.Shape.{Shape}
use Rattle.silq_types.specs.declared.types.Shape.TheVariants.{Bit, UInt, Int, Array}
use Rattle.silq_types.specs.Types.{scalar_bits}

-- A number of n bits is kept as the number from 0 to 2^n - 1 that is equal to it modulo 2^n; `by_type` reads it by its type.
pub data Value : Type 0 where
  -- the value of a static expression, which takes its type where it stands
  whole : ℤ → Value
  single : Scalar → ℕ → Value
  array : Scalar → List ℕ → Value
  -- what a name shows whose variable was taken out
  gone : Value

-- ---- numbers

abbrev pub modulus : Scalar → ℕ
modulus k = 2 ^ scalar_bits k

-- a whole number modulo m
abbrev pub modulo : ℤ → ℕ → ℕ
modulo (pos n) m = n % m
modulo (negsuc n) m = m - suc (n % m)

-- two's complement for `int`
abbrev pub by_type : Scalar → ℕ → ℤ
by_type scalars.Bit a = pos a
by_type (scalars.UInt n) a = pos a
by_type (scalars.Int n) a = if nat_lt a (2 ^ (n - 1)) then pos a else (pos a -ℤ pos (2 ^ n))

abbrev pub truth_value : Bool → Value
truth_value b = single scalars.Bit (if b then 1 else 0)

abbrev pub is_one : Value → Bool
is_one (single k a) = a == 1
is_one v = false

-- digit i of a in base 2, and a with digit i set to b
abbrev pub digit : ℕ → ℕ → ℕ
digit i a = (a / 2 ^ i) % 2

abbrev pub with_digit : ℕ → ℕ → ℕ → ℕ
with_digit i a b = (a + 2 ^ i * b) - 2 ^ i * digit i a

-- exclusive or, digit by digit, of numbers of n bits
abbrev pub exclusive_or : ℕ → ℕ → ℕ → ℕ
exclusive_or zero a b = 0
exclusive_or (suc n) a b = (a + b) % 2 + 2 * exclusive_or n (a / 2) (b / 2)

-- ---- types

-- the static value z as a number of a type
abbrev pub typed : Scalar → ℤ → Value
typed k z = single k (modulo z (modulus k))

-- a static value takes the type
abbrev pub typed_as : Shape → Value → Value
typed_as Bit (whole z) = typed scalars.Bit z
typed_as (UInt n) (whole z) = typed (scalars.UInt n) z
typed_as (Int n) (whole z) = typed (scalars.Int n) z
typed_as s v = v

-- a static value takes the type of the other
abbrev pub typed_like : Value → Value → Value
typed_like (single k b) (whole z) = typed k z
typed_like w v = v

-- ---- operators

abbrev pub on_number : UnaryOp → Scalar → ℕ → Value
on_number Not k a = truth_value (not (a == 1))
on_number Neg k a = single k ((modulus k - a) % modulus k)

abbrev pub on_numbers : BinaryOp → Scalar → ℕ → ℕ → Value
on_numbers Or k a b = truth_value ((a == 1) || (b == 1))
on_numbers And k a b = truth_value ((a == 1) && (b == 1))
on_numbers Eq k a b = truth_value (a == b)
on_numbers Ne k a b = truth_value (not (a == b))
on_numbers Lt k a b = truth_value (int_lt (by_type k a) (by_type k b))
on_numbers Le k a b = truth_value (int_le (by_type k a) (by_type k b))
on_numbers Gt k a b = truth_value (int_lt (by_type k b) (by_type k a))
on_numbers Ge k a b = truth_value (int_le (by_type k b) (by_type k a))
on_numbers Add k a b = single k ((a + b) % modulus k)
on_numbers Sub k a b = single k ((a + (modulus k - b)) % modulus k)
on_numbers Mul k a b = single k ((a * b) % modulus k)
on_numbers Div k a b = gone

abbrev pub of_one : UnaryOp → Value → Value
of_one op (single k a) = on_number op k a
of_one op v = gone

abbrev pub of_two_typed : BinaryOp → Value → Value → Value
of_two_typed op (single k a) (single j b) = on_numbers op k a b
of_two_typed op v w = gone

abbrev pub of_two : BinaryOp → Value → Value → Value
of_two op v w = of_two_typed op (typed_like w v) (typed_like v w)

abbrev pub flipped : Value → Value
flipped v = of_one Not v

-- `vector`: the value repeated
abbrev pub repeated : Value → Value → Value
repeated (whole n) (single k a) = array k (replicate (nat_abs n) a)
repeated n v = gone

abbrev pub all_exclusive_or : ℕ → List ℕ → List ℕ → List ℕ
all_exclusive_or n (a ∷ rest) (b ∷ bs) = exclusive_or n a b ∷ all_exclusive_or n rest bs
all_exclusive_or n _ _ = []

abbrev pub update_typed : UpdateOp → Value → Value → Value
update_typed updates.Add (single k a) (single j b) = on_numbers Add k a b
update_typed updates.Sub (single k a) (single j b) = on_numbers Sub k a b
update_typed updates.Xor (single k a) (single j b) = single k (exclusive_or (scalar_bits k) a b)
update_typed updates.Xor (array k xs) (array j ys) = array k (all_exclusive_or (scalar_bits k) xs ys)
update_typed op v w = gone

-- the value after `v op= w`
abbrev pub updated : UpdateOp → Value → Value → Value
updated op v w = update_typed op v (typed_like v w)

abbrev pub all_equal : List ℕ → List ℕ → Bool
all_equal [] [] = true
all_equal (a ∷ rest) (b ∷ bs) = (a == b) && all_equal rest bs
all_equal _ _ = false

abbrev pub equal_typed : Value → Value → Bool
equal_typed (single k a) (single j b) = a == b
equal_typed (array k xs) (array j ys) = all_equal xs ys
equal_typed v w = false

abbrev pub equal_values : Value → Value → Bool
equal_values v w = equal_typed v (typed_like v w)

-- ---- parts

abbrev pub number_in : Value → ℕ
number_in (single k a) = a
number_in v = 0

abbrev pub digit_part : Scalar → ℕ → List ℤ → Value
digit_part k a [] = single k a
digit_part k a (i ∷ is) = single scalars.Bit (digit (nat_abs i) a)

-- an index of an array gives an item, an index of a number a bit
abbrev pub part : Value → List ℤ → Value
part (single k a) is = digit_part k a is
part (array k xs) (i ∷ is) = digit_part k (get_or xs (nat_abs i) 0) is
part v is = v

abbrev pub with_digit_part : ℕ → List ℤ → ℕ → ℕ
with_digit_part a [] b = b
with_digit_part a (i ∷ is) b = with_digit (nat_abs i) a b

-- the value with its part changed
abbrev pub with_part : Value → List ℤ → Value → Value
with_part v [] w = w
with_part (single k a) (i ∷ is) w = single k (with_digit_part a (i ∷ is) (number_in w))
with_part (array k xs) (i ∷ is) w = array k (set xs (nat_abs i) (with_digit_part (get_or xs (nat_abs i) 0) is (number_in w)))
with_part v is w = v

-- ---- bits, low bit first

abbrev pub low_bits : ℕ → ℕ → List Bool
low_bits zero a = []
low_bits (suc n) a = (a % 2 == 1) ∷ low_bits n (a / 2)

abbrev pub number_of : List Bool → ℕ
number_of [] = 0
number_of (b ∷ bs) = (if b then 1 else 0) + 2 * number_of bs

-- arrays item by item
abbrev pub bits_of : Value → List Bool
bits_of (single k a) = low_bits (scalar_bits k) a
bits_of (array k xs) = flat_map (low_bits (scalar_bits k)) xs
bits_of v = []

-- n numbers of w bits
abbrev pub numbers_of : ℕ → ℕ → List Bool → List ℕ
numbers_of zero w bs = []
numbers_of (suc n) w bs = number_of (take w bs) ∷ numbers_of n w (drop w bs)

abbrev pub value_of_bits : Shape → List Bool → Value
value_of_bits Bit bs = single scalars.Bit (number_of bs)
value_of_bits (UInt n) bs = single (scalars.UInt n) (number_of bs)
value_of_bits (Int n) bs = single (scalars.Int n) (number_of bs)
value_of_bits (Array k n) bs = array k (numbers_of n (scalar_bits k) bs)
