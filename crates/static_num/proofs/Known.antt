-- A static expression has a value or a failing operation, and so has an angle with `pi`.
use Rattle.std.proofs.Common.{◌≡◌, ℤ, pos, negsuc, Bool, true, false, Option, Some, None, Result, Ok, Err, List, refl}
use Rattle.std.specs.Prelude.{◌^◌, ◌&&◌, ◌↔◌, if◌then◌else◌, is_some, nat_lt, int_div}
use Rattle.std.specs.Ordering.{int_eq}
use Rattle.silq_tree.specs.declared.node.NameId.{NameId}
use Rattle.silq_tree.specs.declared.node.UnaryOp.{UnaryOp}
use Rattle.silq_tree.specs.declared.node.UnaryOp.TheVariants.{Not, Neg}
use Rattle.silq_tree.specs.declared.node.BinaryOp.{BinaryOp}
use Rattle.silq_tree.specs.declared.node.BinaryOp.TheVariants.{Or, And, Eq, Ne, Lt, Le, Gt, Ge, Add, Sub, Mul, Div}
use Rattle.silq_tree.specs.Syntax.{Expression, number, typed_number, truth, pi, place, whole, part, part_of_part, called, tuple, unary, binary}
use Rattle.static_num.specs.declared.values.StaticFault.{StaticFault}
use Rattle.static_num.specs.declared.values.StaticFault.TheVariants.{NotStatic, ZeroDivisor, Overflow}
use Rattle.static_num.specs.Static.{value_of_name, is_static, value, applied, joined, in_range, known, ◌>>=◌}

-- not the refusal of what is not static
abbrev pub IsTold : {A : Type 0} → Result A StaticFault → Type 0
IsTold r = r ≡ Err NotStatic → ⊥

pub bound_told : {A B : Type 0} (r : Result A StaticFault) (f : A → Result B StaticFault) → IsTold r → ((x : A) → IsTold (f x)) → IsTold (r >>= f)
bound_told (Ok x) f p q = q x
bound_told (Err NotStatic) f p q = λ h. p refl
bound_told (Err ZeroDivisor) f p q = λ h. cc
bound_told (Err Overflow) f p q = λ h. cc

pub ok_told : {A : Type 0} (x : A) → IsTold (Ok x)
ok_told x = λ h. cc

pub within_told : {A : Type 0} (b : Bool) (x : A) → IsTold (if b then Ok x else Err Overflow)
within_told true x = λ h. cc
within_told false x = λ h. cc

range_told : (z : ℤ) → IsTold (in_range z)
unfolding in_range
range_told (pos n) = within_told (nat_lt n (2 ^ 63)) (pos n)
range_told (negsuc n) = within_told (nat_lt n (2 ^ 63)) (negsuc n)

pub divided_told : {A : Type 0} (b : Bool) (r : Result A StaticFault) → IsTold r → IsTold (if b then Err ZeroDivisor else r)
divided_told true r p = λ h. cc
divided_told false r p = p

applied_told : (op : UnaryOp) (x : ℤ) → IsTold (applied op x)
applied_told Not x = ok_told _
applied_told Neg x = range_told _

joined_told : (op : BinaryOp) (x y : ℤ) → IsTold (joined op x y)
joined_told Or x y = ok_told _
joined_told And x y = ok_told _
joined_told Eq x y = ok_told _
joined_told Ne x y = ok_told _
joined_told Lt x y = ok_told _
joined_told Le x y = ok_told _
joined_told Gt x y = ok_told _
joined_told Ge x y = ok_told _
joined_told Add x y = range_told _
joined_told Sub x y = range_told _
joined_told Mul x y = range_told _
joined_told Div x y = divided_told (int_eq y (pos 0)) (in_range (int_div x y)) (range_told _)

known_told : (o : Option ℤ) → is_some o ≡ true → IsTold (known o)
known_told None s = cc
known_told (Some x) s = ok_told x

pub both_left : (a b : Bool) → (a && b) ≡ true → a ≡ true
both_left true b h = refl
both_left false b h = h

pub both_right : (a b : Bool) → (a && b) ≡ true → b ≡ true
both_right true b h = h
both_right false b h = cc

pub static_told : (statics : List (NameId × ℤ)) (e : Expression) → is_static statics e ≡ true → IsTold (value statics e)
unfolding is_static value
static_told statics (number v at) s = ok_told v
static_told statics (truth b at) s = ok_told _
static_told statics (place (whole name) at) s = known_told (value_of_name statics name None) s
static_told statics (unary op a at) s = bound_told (value statics a) (applied op) (static_told statics a s) (applied_told op)
static_told statics (binary op a b at) s =
    bound_told (value statics a) (λ x. value statics b >>= joined op x) (static_told statics a (both_left (is_static statics a) (is_static statics b) s))
    (λ x. bound_told (value statics b) (joined op x) (static_told statics b (both_right (is_static statics a) (is_static statics b) s)) (joined_told op x))
static_told statics (typed_number v ty at) s = cc
static_told statics (pi at) s = cc
static_told statics (place (part name i) at) s = cc
static_told statics (place (part_of_part name i j) at) s = cc
static_told statics (called f xs ys at) s = cc
static_told statics (tuple xs at) s = cc

pub value_told : (statics : List (NameId × ℤ)) (e : Expression) → is_static statics e ≡ true → (value statics e ≡ Err NotStatic) ↔ (is_static statics e ≡ false)
value_told statics e s = (λ h. absurd (static_told statics e s h), λ h. cc)
