-- Angles: fractions of pi in lowest terms, and the eighths of a turn that they are.
use Rattle.std.specs.Ordering.{int_eq}
use Rattle.std.specs.Int.{IsGcd}
use Rattle.std.specs.Prelude.{ℕ, zero, suc, ◌<◌, ◌+◌, ◌-◌, ◌*◌, ◌/◌, ◌%◌, ◌^◌, nat_lt, Bool, true, false, not, ◌&&◌, ◌==◌, cond, if◌then◌else◌, List, Result, Ok, Err, ℤ, pos, negsuc, unsigned_abs}
use Rattle.silq_tree.specs.declared.node.NameId.{NameId}
use Rattle.silq_tree.specs.declared.node.UnaryOp.TheVariants.{Neg}
use Rattle.silq_tree.specs.declared.node.BinaryOp.TheVariants.{Mul, Div}
use Rattle.silq_tree.specs.Syntax.{Expression, pi, unary, binary}
use Rattle.static_num.specs.declared.values.StaticFault.{StaticFault}
use Rattle.static_num.specs.declared.values.StaticFault.TheVariants.{NotStatic, ZeroDivisor, Overflow}
use Rattle.static_num.specs.declared.angles.AngleFault.{AngleFault}
use Rattle.static_num.specs.declared.angles.AngleFault.TheVariants.{NotEighth, Static}
use Rattle.static_num.specs.declared.fraction.Fraction.{Fraction}
use Rattle.static_num.specs.Static.{is_static, value, ◌>>=◌}

-- the greatest common divisor, by at most so many divisions with a remainder
unfoldable pub divisor : ℕ → ℕ → ℕ → ℕ
divisor zero a b = a
divisor (suc turns) a zero = a
divisor (suc turns) a (suc b) = divisor turns (suc b) (a % suc b)

-- each division makes b smaller
abbrev pub greatest_divisor : ℕ → ℕ → ℕ
greatest_divisor a b = divisor b a b

-- whether numerator and denominator are in the range of 64 bits with a sign
abbrev pub fits : Bool → ℕ → ℕ → Bool
fits negative top bottom = nat_lt top (cond negative (2 ^ 63 + 1) (2 ^ 63)) && nat_lt bottom (2 ^ 63)

abbrev pub bounded : Bool → ℕ → ℕ → Result Fraction StaticFault
bounded negative top bottom = if fits negative top bottom then Ok (record { negative = negative; top = top; bottom = bottom }) else Err Overflow

-- a fraction in lowest terms
abbrev pub lowest : Bool → ℕ → ℕ → Result Fraction StaticFault
lowest negative top bottom = bounded negative (top / greatest_divisor top bottom) (bottom / greatest_divisor top bottom)

-- in lowest terms, with a denominator above 0
abbrev pub IsLowest : Fraction → Type 0
IsLowest f = IsGcd f.top f.bottom 1 × (0 < f.bottom)

-- the sign of a product or a quotient
abbrev pub with_sign : Bool → ℤ → Bool
with_sign negative (pos n) = negative
with_sign negative (negsuc n) = not negative

abbrev pub scaled : Fraction → ℤ → Result Fraction StaticFault
scaled f s = lowest (with_sign f.negative s) (f.top * unsigned_abs s) f.bottom

abbrev pub shrunk : Fraction → ℤ → Result Fraction StaticFault
shrunk f s = if int_eq s (pos 0) then Err ZeroDivisor else lowest (with_sign f.negative s) f.top (f.bottom * unsigned_abs s)

-- an angle with `pi`: `pi`, `-A`, `s * A`, `A * s` or `A / s` with a static s
unfoldable pub is_turn : List (NameId × ℤ) → Expression → Bool
is_turn statics (pi at) = true
is_turn statics (unary Neg a at) = is_turn statics a
is_turn statics (binary Mul a b at) = if is_static statics a then is_turn statics b else (is_turn statics a && is_static statics b)
is_turn statics (binary Div a b at) = is_turn statics a && is_static statics b
is_turn statics _ = false

-- the fraction of pi that such an angle is, or the first failing operation
unfoldable pub fraction : List (NameId × ℤ) → Expression → Result Fraction StaticFault
fraction statics (pi at) = Ok (record { negative = false; top = 1; bottom = 1 })
fraction statics (unary Neg a at) = fraction statics a >>= λ f. scaled f (negsuc 0)
fraction statics (binary Mul a b at) =
    if is_static statics a then (value statics a >>= λ s. fraction statics b >>= λ f. scaled f s)
    else (fraction statics a >>= λ f. value statics b >>= λ s. scaled f s)
fraction statics (binary Div a b at) = fraction statics a >>= λ f. value statics b >>= λ s. shrunk f s
fraction statics _ = Err NotStatic

-- so many eighths of a turn, forwards or backwards
abbrev pub turned : Bool → ℕ → ℕ
turned false n = n % 8
turned true n = (8 - n % 8) % 8

-- an eighth of a turn is pi/4
abbrev pub eighths : Fraction → Result ℕ AngleFault
eighths f = if (4 * f.top) % f.bottom == 0 then Ok (turned f.negative (4 * f.top / f.bottom)) else Err NotEighth

abbrev pub number_eighths : ℤ → Result ℕ AngleFault
number_eighths z = if int_eq z (pos 0) then Ok 0 else Err NotEighth

abbrev pub or_fault : {A : Type 0} → Result A StaticFault → (A → Result ℕ AngleFault) → Result ℕ AngleFault
or_fault (Ok a) f = f a
or_fault (Err e) f = Err (Static e)

abbrev pub turn_of : List (NameId × ℤ) → Expression → Result ℕ AngleFault
turn_of statics e = or_fault (fraction statics e) eighths

-- of the static expressions only 0 is a multiple of pi/4
abbrev pub number_turn_of : List (NameId × ℤ) → Expression → Result ℕ AngleFault
number_turn_of statics e = or_fault (value statics e) number_eighths

-- the eighths of a turn of an angle; a failing operation is told only where all of it is an angle
abbrev pub angle_of : List (NameId × ℤ) → Expression → Result ℕ AngleFault
angle_of statics e =
    if is_static statics e then number_turn_of statics e
    else (if is_turn statics e then turn_of statics e else Err (Static NotStatic))
