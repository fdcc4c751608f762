-- A checked operation gives a value in range.
use Rattle.std.proofs.Common.{◌≡◌, zero, suc, false, ℤ, pos, negsuc, Option, Some, None, Err, arith, w64}
use Rattle.std.specs.Prelude.{SomeIff, FitsSigned, int_div, if◌then◌else◌}
use Rattle.std.specs.Int.{CanDivide, IsNonZero}
use Rattle.std.specs.Ordering.{int_eq}
use Rattle.std.specs.Option.{ok_or}
use Rattle.std.proofs.lemmas.Int.{ints}
use Rattle.std.proofs.lemmas.Grind.{common_steps}
use Rattle.static_num.specs.Static.{in_range}
use Rattle.static_num.specs.declared.values.StaticFault.TheVariants.{Overflow, ZeroDivisor}

pub checked : (o : Option ℤ) (z : ℤ) → SomeIff o (FitsSigned w64 z) z → ok_or o Overflow ≡ in_range z
unfolding in_range
checked None (pos n) h = grind (arith, ints, common_steps)
checked None (negsuc n) h = grind (arith, ints, common_steps)
checked (Some x) (pos n) h = grind (arith, ints, common_steps)
checked (Some x) (negsuc n) h = grind (arith, ints, common_steps)

-- a number that is not 0 is not equal to it
apart : (y : ℤ) → IsNonZero w64 y → int_eq y (pos 0) ≡ false
apart (pos zero) n = absurd (omega arith)
apart (pos (suc k)) n = grind (arith, common_steps)
apart (negsuc k) n = grind (arith, common_steps)

-- the same for a quotient, whose divisor is not 0
pub divided : (o : Option ℤ) (x y : ℤ) → SomeIff o (CanDivide w64 x y) (int_div x y) → IsNonZero w64 y
    → ok_or o Overflow ≡ (if int_eq y (pos 0) then Err ZeroDivisor else in_range (int_div x y))
divided None x y h n = rw (apart y n) (checked None (int_div x y) (λ f. h (n, f)))
divided (Some q) x y h n = rw (apart y n) (checked (Some q) (int_div x y) (h.0.1, h.1))
