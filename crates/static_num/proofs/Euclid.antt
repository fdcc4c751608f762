-- The greatest common divisor.
use Rattle.std.proofs.Common.{◌≡◌, ℕ, zero, suc, ◌<◌, ◌≤◌, ◌%◌, ◌/◌, Bool, refl, arith}
use Rattle.std.specs.Prelude.{IfOk}
use Rattle.std.proofs.lemmas.Grind.{common_steps}
use Rattle.std.proofs.lemmas.Nat.{le-div}
use Rattle.std.proofs.Math.Nat.{eq-zero_of_zero-dvd}
use Rattle.std.specs.Int.{IsGcd}
use Rattle.std.proofs.lemmas.Nat.Gcd.{IsGcd-from_zero, IsGcd-from_mod, le_of_dvd}
use Rattle.static_num.specs.Angle.{divisor, greatest_divisor, bounded}

below : (a b : ℕ) → a % suc b ≤ b
below a b = omega arith

-- as many divisions as b are enough
enough : (s t a b : ℕ) → b ≤ s → b ≤ t → divisor s a b ≡ divisor t a b
unfolding divisor
enough zero zero a b p q = refl
enough zero (suc t) a zero p q = refl
enough zero (suc t) a (suc b) p q = absurd (omega arith)
enough (suc s) zero a zero p q = refl
enough (suc s) zero a (suc b) p q = absurd (omega arith)
enough (suc s) (suc t) a zero p q = refl
enough (suc s) (suc t) a (suc b) p q = enough s t (suc b) (a % suc b) (omega (arith, below a b)) (omega (arith, below a b))

pub euclid_step : (a b : ℕ) → 0 < b → greatest_divisor b (a % b) ≡ greatest_divisor a b
unfolding divisor
euclid_step a zero p = absurd (omega arith)
euclid_step a (suc b) p = enough (a % suc b) b (suc b) (a % suc b) (omega arith) (below a b)

pub euclid_end : (a b : ℕ) → b ≡ 0 → greatest_divisor a b ≡ a
unfolding divisor
euclid_end a zero p = refl
euclid_end a (suc b) p = absurd (omega arith)

divides : (t a b : ℕ) → b ≤ t → IsGcd a b (divisor t a b)
unfolding divisor
divides zero a zero p = IsGcd-from_zero a zero refl
divides zero a (suc b) p = absurd (omega arith)
divides (suc t) a zero p = IsGcd-from_zero a zero refl
divides (suc t) a (suc b) p = IsGcd-from_mod a (suc b) _ (divides t (suc b) (a % suc b) (omega (arith, below a b)))

pub is_greatest : (a b : ℕ) → IsGcd a b (greatest_divisor a b)
is_greatest a b = divides b a b (omega arith)

above : (t a b : ℕ) → 0 < a → 0 < divisor t a b
unfolding divisor
above zero a b p = p
above (suc t) a zero p = p
above (suc t) a (suc b) p = above t (suc b) (a % suc b) (omega arith)

pub is_above : (a b : ℕ) → 0 < b → 0 < greatest_divisor a b
unfolding divisor
is_above a zero p = absurd (omega arith)
is_above a (suc b) p = above b (suc b) (a % suc b) (omega arith)

-- what a common divisor leaves of a number above 0 is above 0
pub quotient_above : (a b g : ℕ) → 0 < b → IsGcd a b g → 0 < b / g
quotient_above a zero g p h = absurd (omega arith)
quotient_above a (suc b) zero p h = absurd (cc (eq-zero_of_zero-dvd h.1))
quotient_above a (suc b) (suc g) p h = let l = le_of_dvd p h.1 in le-div 1 (suc b) (suc g) (omega arith) (omega (arith, l))

pub bounded_above : (negative : Bool) (top bottom : ℕ) → 0 < bottom → IfOk (bounded negative top bottom) (λ f. 0 < f.bottom)
bounded_above negative top bottom p = grind (arith, common_steps, p)
