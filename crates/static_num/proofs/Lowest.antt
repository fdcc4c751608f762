-- The fraction that an angle is has lowest terms.
use Rattle.std.proofs.Common.{◌≡◌, ℕ, zero, suc, ◌*◌, ◌/◌, ◌<◌, ℤ, negsuc, Bool, true, false, Result, Ok, Err, List, refl, arith}
use Rattle.std.specs.Prelude.{IfOk, if◌then◌else◌, unsigned_abs, pos}
use Rattle.std.specs.Int.{IsGcd}
use Rattle.std.specs.Ordering.{int_eq}
use Rattle.std.proofs.Math.Nat.{one-dvd, mul-dvd-mul_left, dvd_of_mul-dvd-mul_left, mul-one, mul-div_cancel', pos_of_dvd_of_pos}
use Rattle.silq_tree.specs.declared.node.NameId.{NameId}
use Rattle.silq_tree.specs.declared.node.UnaryOp.TheVariants.{Not, Neg}
use Rattle.silq_tree.specs.declared.node.BinaryOp.TheVariants.{Or, And, Eq, Ne, Lt, Le, Gt, Ge, Add, Sub, Mul, Div}
use Rattle.silq_tree.specs.Syntax.{Expression, number, typed_number, truth, pi, place, called, tuple, unary, binary}
use Rattle.static_num.specs.declared.values.StaticFault.{StaticFault}
use Rattle.static_num.specs.declared.values.StaticFault.TheVariants.{Overflow, ZeroDivisor}
use Rattle.static_num.specs.declared.fraction.Fraction.{Fraction}
use Rattle.static_num.specs.Static.{is_static, value, ◌>>=◌}
use Rattle.static_num.specs.Angle.{greatest_divisor, fits, lowest, IsLowest, with_sign, scaled, shrunk, fraction}
use Rattle.static_num.proofs.Euclid.{is_greatest, quotient_above}

-- divided by their greatest common divisor, two numbers have none but 1
reduced : (a b g : ℕ) → 0 < b → IsGcd a b g → IsGcd (a / g) (b / g) 1
reduced a b g p h =
    let some : 0 < g = pos_of_dvd_of_pos h.1 p in (
      one-dvd (a / g),
      one-dvd (b / g),
      λ d q r.
          let left = rw (mul-div_cancel' g h.0) at (mul-dvd-mul_left d g q) in
          let right = rw (mul-div_cancel' g h.1) at (mul-dvd-mul_left d g r) in
          dvd_of_mul-dvd-mul_left d some (rw (mul-one g) (h.2 (g * d) left right)),
    )

within : (b : Bool) (f : Fraction) → IsLowest f → IfOk (if b then Ok f else Err Overflow) IsLowest
within true f p = p
within false f p = tt

lowest_lowest : (negative : Bool) (top bottom : ℕ) → 0 < bottom → IfOk (lowest negative top bottom) IsLowest
lowest_lowest negative top bottom p =
    let g = is_greatest top bottom in
    within (fits negative (top / greatest_divisor top bottom) (bottom / greatest_divisor top bottom)) _ (reduced top bottom _ p g, quotient_above top bottom _ p g)

scaled_lowest : (f : Fraction) (s : ℤ) → IsLowest f → IfOk (scaled f s) IsLowest
scaled_lowest f s p = lowest_lowest (with_sign f.negative s) (f.top * unsigned_abs s) f.bottom p.1

above : (z : ℤ) → int_eq z (pos 0) ≡ false → 0 < unsigned_abs z
above (pos zero) h = absurd (cc)
above (pos (suc n)) h = omega arith
above (negsuc n) h = omega arith

times : (a b : ℕ) → 0 < a → 0 < b → 0 < a * b
times zero b p q = absurd (omega arith)
times (suc a) zero p q = absurd (omega arith)
times (suc a) (suc b) p q = omega arith

shrunk_by : (b : Bool) (f : Fraction) (s : ℤ) → int_eq s (pos 0) ≡ b → IsLowest f
    → IfOk (if b then Err ZeroDivisor else lowest (with_sign f.negative s) f.top (f.bottom * unsigned_abs s)) IsLowest
shrunk_by true f s e p = tt
shrunk_by false f s e p = lowest_lowest (with_sign f.negative s) f.top (f.bottom * unsigned_abs s) (times f.bottom (unsigned_abs s) p.1 (above s e))

shrunk_lowest : (f : Fraction) (s : ℤ) → IsLowest f → IfOk (shrunk f s) IsLowest
shrunk_lowest f s p = shrunk_by (int_eq s (pos 0)) f s refl p

-- a fraction and then what is done with it, and a number first
onward : (r : Result Fraction StaticFault) (g : Fraction → Result Fraction StaticFault) → IfOk r IsLowest → ((f : Fraction) → IsLowest f → IfOk (g f) IsLowest) → IfOk (r >>= g) IsLowest
onward (Ok f) g p q = q f p
onward (Err e) g p q = tt

after : (r : Result ℤ StaticFault) (g : ℤ → Result Fraction StaticFault) → ((s : ℤ) → IfOk (g s) IsLowest) → IfOk (r >>= g) IsLowest
after (Ok s) g q = q s
after (Err e) g q = tt

chosen : (b : Bool) (p q : Result Fraction StaticFault) → IfOk p IsLowest → IfOk q IsLowest → IfOk (if b then p else q) IsLowest
chosen true p q h k = h
chosen false p q h k = k

pub fractions_are_lowest : (statics : List (NameId × ℤ)) (e : Expression) → IfOk (fraction statics e) IsLowest
unfolding fraction
fractions_are_lowest statics (pi at) = ((one-dvd 1, one-dvd 1, λ d p q. p), omega arith)
fractions_are_lowest statics (unary Neg a at) = onward (fraction statics a) _ (fractions_are_lowest statics a) (λ f p. scaled_lowest f (negsuc 0) p)
fractions_are_lowest statics (unary Not a at) = tt
fractions_are_lowest statics (binary Mul a b at) =
    chosen (is_static statics a) _ _ (after (value statics a) _ (λ s. onward (fraction statics b) _ (fractions_are_lowest statics b) (λ f p. scaled_lowest f s p)))
    (onward (fraction statics a) _ (fractions_are_lowest statics a) (λ f p. after (value statics b) _ (λ s. scaled_lowest f s p)))
fractions_are_lowest statics (binary Div a b at) =
    onward (fraction statics a) _ (fractions_are_lowest statics a) (λ f p. after (value statics b) _ (λ s. shrunk_lowest f s p))
fractions_are_lowest statics (binary Or a b at) = tt
fractions_are_lowest statics (binary And a b at) = tt
fractions_are_lowest statics (binary Eq a b at) = tt
fractions_are_lowest statics (binary Ne a b at) = tt
fractions_are_lowest statics (binary Lt a b at) = tt
fractions_are_lowest statics (binary Le a b at) = tt
fractions_are_lowest statics (binary Gt a b at) = tt
fractions_are_lowest statics (binary Ge a b at) = tt
fractions_are_lowest statics (binary Add a b at) = tt
fractions_are_lowest statics (binary Sub a b at) = tt
fractions_are_lowest statics (number v at) = tt
fractions_are_lowest statics (typed_number v ty at) = tt
fractions_are_lowest statics (truth v at) = tt
fractions_are_lowest statics (place p at) = tt
fractions_are_lowest statics (called f xs ys at) = tt
fractions_are_lowest statics (tuple xs at) = tt
