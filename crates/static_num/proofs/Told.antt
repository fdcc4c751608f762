-- An angle has eighths of a turn or a fault of its own.
use Rattle.std.proofs.Common.{◌≡◌, ℕ, ◌*◌, ◌/◌, ◌%◌, ◌==◌, ℤ, pos, negsuc, Bool, true, false, Result, Ok, Err, List, refl}
use Rattle.std.specs.Prelude.{◌&&◌, ◌||◌, ◌↔◌, if◌then◌else◌, unsigned_abs}
use Rattle.std.specs.Ordering.{int_eq}
use Rattle.silq_tree.specs.declared.node.NameId.{NameId}
use Rattle.silq_tree.specs.declared.node.UnaryOp.TheVariants.{Not, Neg}
use Rattle.silq_tree.specs.declared.node.BinaryOp.TheVariants.{Or, And, Eq, Ne, Lt, Le, Gt, Ge, Add, Sub, Mul, Div}
use Rattle.silq_tree.specs.Syntax.{Expression, number, typed_number, truth, pi, place, called, tuple, unary, binary}
use Rattle.static_num.specs.declared.values.StaticFault.{StaticFault}
use Rattle.static_num.specs.declared.values.StaticFault.TheVariants.{NotStatic, ZeroDivisor, Overflow}
use Rattle.static_num.specs.declared.angles.AngleFault.{AngleFault}
use Rattle.static_num.specs.declared.angles.AngleFault.TheVariants.{NotEighth, Static}
use Rattle.static_num.specs.declared.fraction.Fraction.{Fraction}
use Rattle.static_num.specs.Static.{is_static, value, ◌>>=◌}
use Rattle.static_num.specs.Angle.{fits, greatest_divisor, lowest, with_sign, scaled, shrunk, is_turn, fraction, turned, eighths, number_eighths, or_fault, number_turn_of, turn_of}
use Rattle.static_num.proofs.Known.{IsTold, bound_told, ok_told, within_told, divided_told, both_left, both_right, static_told}

lowest_told : (negative : Bool) (top bottom : ℕ) → IsTold (lowest negative top bottom)
lowest_told negative top bottom = within_told (fits negative (top / greatest_divisor top bottom) (bottom / greatest_divisor top bottom)) _

scaled_told : (f : Fraction) (s : ℤ) → IsTold (scaled f s)
scaled_told f s = lowest_told (with_sign f.negative s) (f.top * unsigned_abs s) f.bottom

shrunk_told : (f : Fraction) (s : ℤ) → IsTold (shrunk f s)
shrunk_told f s = divided_told (int_eq s (pos 0)) _ (lowest_told (with_sign f.negative s) f.top (f.bottom * unsigned_abs s))

multiple_told : (statics : List (NameId × ℤ)) (a b : Expression) (c : Bool) → is_static statics a ≡ c
    → (if c then is_turn statics b else (is_turn statics a && is_static statics b)) ≡ true
    → (is_turn statics a ≡ true → IsTold (fraction statics a)) → (is_turn statics b ≡ true → IsTold (fraction statics b))
    → IsTold (if c then (value statics a >>= λ s. fraction statics b >>= λ f. scaled f s) else (fraction statics a >>= λ f. value statics b >>= λ s. scaled f s))
multiple_told statics a b true e h p q = bound_told (value statics a) _ (static_told statics a e) (λ s. bound_told (fraction statics b) _ (q h) (λ f. scaled_told f s))
multiple_told statics a b false e h p q =
    bound_told (fraction statics a) _ (p (both_left (is_turn statics a) (is_static statics b) h))
    (λ f. bound_told (value statics b) _ (static_told statics b (both_right (is_turn statics a) (is_static statics b) h)) (λ s. scaled_told f s))

turn_told : (statics : List (NameId × ℤ)) (e : Expression) → is_turn statics e ≡ true → IsTold (fraction statics e)
unfolding is_turn fraction
turn_told statics (pi at) h = ok_told _
turn_told statics (unary Neg a at) h = bound_told (fraction statics a) _ (turn_told statics a h) (λ f. scaled_told f (negsuc 0))
turn_told statics (binary Mul a b at) h = multiple_told statics a b (is_static statics a) refl h (turn_told statics a) (turn_told statics b)
turn_told statics (binary Div a b at) h =
    bound_told (fraction statics a) _ (turn_told statics a (both_left (is_turn statics a) (is_static statics b) h))
    (λ f. bound_told (value statics b) _ (static_told statics b (both_right (is_turn statics a) (is_static statics b) h)) (λ s. shrunk_told f s))
turn_told statics (unary Not a at) h = cc
turn_told statics (binary Or a b at) h = cc
turn_told statics (binary And a b at) h = cc
turn_told statics (binary Eq a b at) h = cc
turn_told statics (binary Ne a b at) h = cc
turn_told statics (binary Lt a b at) h = cc
turn_told statics (binary Le a b at) h = cc
turn_told statics (binary Gt a b at) h = cc
turn_told statics (binary Ge a b at) h = cc
turn_told statics (binary Add a b at) h = cc
turn_told statics (binary Sub a b at) h = cc
turn_told statics (number v at) h = cc
turn_told statics (typed_number v ty at) h = cc
turn_told statics (truth v at) h = cc
turn_told statics (place p at) h = cc
turn_told statics (called f xs ys at) h = cc
turn_told statics (tuple xs at) h = cc

fault_told : {A : Type 0} (r : Result A StaticFault) (g : A → Result ℕ AngleFault) → IsTold r → ((x : A) → g x ≡ Err (Static NotStatic) → ⊥) → or_fault r g ≡ Err (Static NotStatic) → ⊥
fault_told (Ok x) g p q = q x
fault_told (Err NotStatic) g p q = λ h. p refl
fault_told (Err ZeroDivisor) g p q = λ h. cc
fault_told (Err Overflow) g p q = λ h. cc

eighth_told : (b : Bool) (k : ℕ) → (if b then Ok k else Err NotEighth) ≡ Err (Static NotStatic) → ⊥
eighth_told true k h = cc
eighth_told false k h = cc

left_holds : (a b : Bool) → a ≡ true → (a || b) ≡ false → ⊥
left_holds true b p h = cc
left_holds false b p h = cc

right_holds : (a b : Bool) → b ≡ true → (a || b) ≡ false → ⊥
right_holds true b p h = cc
right_holds false b p h = cc

pub number_told : (statics : List (NameId × ℤ)) (e : Expression) → is_static statics e ≡ true → (number_turn_of statics e ≡ Err (Static NotStatic)) ↔ ((is_static statics e || is_turn statics e) ≡ false)
number_told statics e s = (
  λ h. absurd (fault_told (value statics e) number_eighths (static_told statics e s) (λ z. eighth_told (int_eq z (pos 0)) 0) h),
  λ h. absurd (left_holds (is_static statics e) (is_turn statics e) s h),
)

pub fraction_told : (statics : List (NameId × ℤ)) (e : Expression) → is_turn statics e ≡ true → (turn_of statics e ≡ Err (Static NotStatic)) ↔ ((is_static statics e || is_turn statics e) ≡ false)
fraction_told statics e t = (
  λ h. absurd (fault_told (fraction statics e) eighths (turn_told statics e t) (λ f. eighth_told ((4 * f.top) % f.bottom == 0) (turned f.negative (4 * f.top / f.bottom))) h),
  λ h. absurd (right_holds (is_static statics e) (is_turn statics e) t h),
)
