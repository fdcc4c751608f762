-- The value of a static expression.
use Rattle.std.specs.Ordering.{int_eq}
use Rattle.std.specs.Prelude.{◌^◌, nat_lt, if◌then◌else◌, ◌||◌, ℤ, pos, negsuc, ◌+ℤ◌, ◌-ℤ◌, ◌*ℤ◌, neg_ℤ, int_div, int_lt, int_le, Bool, true, false, ◌&&◌, not, cond, ◌==◌, List, [], ◌∷◌, Option, Some, None, is_some, Result, Ok, Err}
use Rattle.silq_tree.specs.declared.node.NameId.{NameId}
use Rattle.silq_tree.specs.declared.node.UnaryOp.{UnaryOp}
use Rattle.silq_tree.specs.declared.node.UnaryOp.TheVariants.{Not, Neg}
use Rattle.silq_tree.specs.declared.node.BinaryOp.{BinaryOp}
use Rattle.silq_tree.specs.declared.node.BinaryOp.TheVariants.{Or, And, Eq, Ne, Lt, Le, Gt, Ge, Add, Sub, Mul, Div}
use Rattle.silq_tree.specs.Syntax.{Expression, number, truth, place, whole, unary, binary}
use Rattle.static_num.specs.declared.values.StaticFault.{StaticFault}
use Rattle.static_num.specs.declared.values.StaticFault.TheVariants.{NotStatic, ZeroDivisor, Overflow}

-- the last value of a name, or else this one
abbrev pub value_of_name : List (NameId × ℤ) → NameId → Option ℤ → Option ℤ
value_of_name [] name found = found
value_of_name (s ∷ statics) name found = value_of_name statics name (cond (s.0.number == name.number) (Some s.1) found)

-- whether each name has a value, and there is no call, index, tuple, pi or number with a type
unfoldable pub is_static : List (NameId × ℤ) → Expression → Bool
is_static statics (number v at) = true
is_static statics (truth b at) = true
is_static statics (place (whole name) at) = is_some (value_of_name statics name None)
is_static statics (unary op a at) = is_static statics a
is_static statics (binary op a b at) = is_static statics a && is_static statics b
is_static statics _ = false

-- a value in the range of 64 bits
unfoldable pub in_range : ℤ → Result ℤ StaticFault
in_range (pos n) = if nat_lt n (2 ^ 63) then Ok (pos n) else Err Overflow
in_range (negsuc n) = if nat_lt n (2 ^ 63) then Ok (negsuc n) else Err Overflow

-- 0 or 1; each value other than 0 is true
abbrev pub number_of : Bool → ℤ
number_of b = cond b (pos 1) (pos 0)

abbrev pub is_true : ℤ → Bool
is_true z = not (int_eq z (pos 0))

abbrev pub applied : UnaryOp → ℤ → Result ℤ StaticFault
applied Not x = Ok (number_of (not (is_true x)))
applied Neg x = in_range (neg_ℤ x)

abbrev pub joined : BinaryOp → ℤ → ℤ → Result ℤ StaticFault
joined Or x y = Ok (number_of (is_true x || is_true y))
joined And x y = Ok (number_of (is_true x && is_true y))
joined Eq x y = Ok (number_of (int_eq x y))
joined Ne x y = Ok (number_of (not (int_eq x y)))
joined Lt x y = Ok (number_of (int_lt x y))
joined Le x y = Ok (number_of (int_le x y))
joined Gt x y = Ok (number_of (int_lt y x))
joined Ge x y = Ok (number_of (int_le y x))
joined Add x y = in_range (x +ℤ y)
joined Sub x y = in_range (x -ℤ y)
joined Mul x y = in_range (x *ℤ y)
joined Div x y = if int_eq y (pos 0) then Err ZeroDivisor else in_range (int_div x y)

infixl 10 ◌>>=◌
abbrev pub ◌>>=◌ : {A B : Type 0} → Result A StaticFault → (A → Result B StaticFault) → Result B StaticFault
(Ok x) >>= f = f x
(Err e) >>= f = Err e

abbrev pub known : Option ℤ → Result ℤ StaticFault
known None = Err NotStatic
known (Some x) = Ok x

-- the value of a static expression, or its first failing operation
unfoldable pub value : List (NameId × ℤ) → Expression → Result ℤ StaticFault
value statics (number v at) = Ok v
value statics (truth b at) = Ok (number_of b)
value statics (place (whole name) at) = known (value_of_name statics name None)
value statics (unary op a at) = value statics a >>= applied op
value statics (binary op a b at) = value statics a >>= λ x. value statics b >>= joined op x
value statics _ = Err NotStatic

-- what a static expression gives: the first failing operation is told only where all of it is static
abbrev pub eval_of : List (NameId × ℤ) → Expression → Result ℤ StaticFault
eval_of statics e = if is_static statics e then value statics e else Err NotStatic
