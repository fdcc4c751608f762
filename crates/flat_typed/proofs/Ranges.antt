-- A part of a type: it lies within the type's bits, and is of the shape that flattening gives it.
use Rattle.std.proofs.Common.{◌≡◌, ℕ, suc, ◌+◌, ◌*◌, ◌≤◌, ◌<◌, Bool, true, false, cond, List, [], ◌∷◌, refl, sym, ap, arith}
use Rattle.std.specs.Prelude.{Option, Some, None, ℤ, pos, negsuc, nat_abs}
use Rattle.std.proofs.lemmas.Bool.{ltb-true}
use Rattle.std.proofs.Math.Nat.{mul-le-mul_right, suc-mul, mul_comm}
use Rattle.silq_types.specs.declared.types.Scalar.{Scalar}
use Rattle.silq_types.specs.declared.types.Scalar.TheVariants as scalars
use Rattle.silq_types.specs.declared.types.Shape.{Shape}
use Rattle.silq_types.specs.declared.types.Shape.TheVariants.{Bit, UInt, Int, Array}
use Rattle.silq_types.specs.declared.types.Ty.{Ty}
use Rattle.silq_types.specs.Types.{single_shape, scalar_bits, shape_bits}
use Rattle.check_scope.specs.Context.{is_below, typed_as, bit_at, scalar_part, part_type}
use Rattle.flat_form.specs.State.{part_shape, part_start, bit_start}
use Rattle.flat_form.specs.Fine.{IndexFits}
use Rattle.flat_form.proofs.Bits.{shape_single}
use Rattle.flat_typed.proofs.Ordered.{clash}
use Rattle.flat_typed.proofs.Parts.{some_same}
use Rattle.flat_typed.proofs.Moving.{start_none}

below_size : (i : ℤ) (n : ℕ) → is_below i n ≡ true → nat_abs i < n
below_size (pos a) n e = ltb-true a n e
below_size (negsuc a) n e = clash (sym e)

is_then : (t : Bool) (o : Option Ty) (u : Ty) → cond t o None ≡ Some u → (t ≡ true) × (o ≡ Some u)
is_then true o u e = (refl, e)
is_then false o u e = absurd (grind (arith, e))

-- one bit
bit_below : (c : Bool) (n : ℕ) (i : ℤ) (is : List ℤ) (t : Ty) → bit_at c n i is ≡ Some t → nat_abs i < n
bit_below c n i is t e = below_size i n (is_then (is_below i n) (typed_as c Bit is) t e).0

same_shape : (c : Bool) (s : Shape) (t : Ty) → ◌≡◌ {A = Option Ty} (Some (record { classical = c; shape = s })) (Some t) → t.shape ≡ s
same_shape c s t e = ap (λ (u : Ty). u.shape) (sym (some_same (record { classical = c; shape = s }) t e))

typed_shape : (c : Bool) (s : Shape) (is : List ℤ) (t : Ty) → typed_as c s is ≡ Some t → t.shape ≡ s
typed_shape c s [] t e = same_shape c s t e
typed_shape c s (i ∷ is) t e = absurd (grind (arith, e))

bit_shape : (c : Bool) (n : ℕ) (i : ℤ) (is : List ℤ) (t : Ty) → bit_at c n i is ≡ Some t → t.shape ≡ Bit
bit_shape c n i is t e = typed_shape c Bit is t (is_then (is_below i n) (typed_as c Bit is) t e).1

item_shape : (c : Bool) (k : Scalar) (n : ℕ) (i : ℤ) (is : List ℤ) (t : Ty) → scalar_part c k is ≡ Some t → t.shape ≡ part_shape (Array k n) (i ∷ is)
item_shape c k n i [] t e = same_shape c (single_shape k) t e
item_shape c scalars.Bit n i (j ∷ js) t e = absurd (grind (arith, e))
item_shape c (scalars.UInt m) n i (j ∷ js) t e = bit_shape c m j js t e
item_shape c (scalars.Int m) n i (j ∷ js) t e = bit_shape c m j js t e

pub part_shaped : (c : Bool) (s : Shape) (is : List ℤ) (t : Ty) → part_type c s is ≡ Some t → t.shape ≡ part_shape s is
part_shaped c s [] t e = same_shape c s t e
part_shaped c Bit (i ∷ is) t e = absurd (grind (arith, e))
part_shaped c (UInt n) (i ∷ is) t e = bit_shape c n i is t e
part_shaped c (Int n) (i ∷ is) t e = bit_shape c n i is t e
part_shaped c (Array k n) (i ∷ is) t e = item_shape c k n i is t (is_then (is_below i n) (scalar_part c k is) t e).1

-- a part of an item ends within it
item_ends : (c : Bool) (k : Scalar) (n : ℕ) (i : ℤ) (is : List ℤ) (t : Ty) → scalar_part c k is ≡ Some t → bit_start is + shape_bits (part_shape (Array k n) (i ∷ is)) ≤ scalar_bits k
item_ends c k n i [] t e = let a = shape_single k in omega (arith, a)
item_ends c scalars.Bit n i (j ∷ js) t e = absurd (grind (arith, e))
item_ends c (scalars.UInt m) n i (j ∷ js) t e = let a = bit_below c m j js t e in omega (arith, a)
item_ends c (scalars.Int m) n i (j ∷ js) t e = let a = bit_below c m j js t e in omega (arith, a)

items_end : (a n k : ℕ) → a < n → a * k + k ≤ k * n
items_end a n k h = let e = mul-le-mul_right {m = suc a} {n = n} k (omega (arith, h)) in let f = suc-mul a k in let g = mul_comm n k in omega (arith, e, f, g)

-- a part ends within the whole
pub part_ends : (c : Bool) (s : Shape) (is : List ℤ) (t : Ty) → part_type c s is ≡ Some t → part_start s is + shape_bits (part_shape s is) ≤ shape_bits s
part_ends c s [] t e = let a = start_none s in omega (arith, a)
part_ends c Bit (i ∷ is) t e = absurd (grind (arith, e))
part_ends c (UInt n) (i ∷ is) t e = let a = bit_below c n i is t e in omega (arith, a)
part_ends c (Int n) (i ∷ is) t e = let a = bit_below c n i is t e in omega (arith, a)
part_ends c (Array k n) (i ∷ is) t e =
    let h = is_then (is_below i n) (scalar_part c k is) t e in
    let a = items_end (nat_abs i) n (scalar_bits k) (below_size i n h.0) in
    let b = item_ends c k n i is t h.1 in
    omega (arith, a, b)

item_index : (c : Bool) (k : Scalar) (n : ℕ) (i : ℤ) (is : List ℤ) (t : Ty) → scalar_part c k is ≡ Some t → IndexFits (Array k n) (i ∷ is)
item_index c k n i [] t e = tt
item_index c scalars.Bit n i (j ∷ js) t e = absurd (grind (arith, e))
item_index c (scalars.UInt m) n i (j ∷ js) t e = bit_below c m j js t e
item_index c (scalars.Int m) n i (j ∷ js) t e = bit_below c m j js t e

-- a second index leads to a bit of the item
pub part_indexed : (c : Bool) (s : Shape) (is : List ℤ) (t : Ty) → part_type c s is ≡ Some t → IndexFits s is
part_indexed c Bit is t e = tt
part_indexed c (UInt n) is t e = tt
part_indexed c (Int n) is t e = tt
part_indexed c (Array k n) [] t e = tt
part_indexed c (Array k n) (i ∷ is) t e = item_index c k n i is t (is_then (is_below i n) (scalar_part c k is) t e).1
