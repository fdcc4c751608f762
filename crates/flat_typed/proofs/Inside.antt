-- A part of a type lies within it.
use Rattle.std.proofs.Common.{◌≡◌, ℕ, suc, ◌+◌, ◌*◌, ◌≤◌, ◌<◌, Bool, true, false, cond, List, [], ◌∷◌, refl, sym, ap, subst, arith, suc-mul, mul-le-mul_right}
use Rattle.std.specs.Prelude.{Option, Some, None, ℤ, pos, negsuc, nat_abs}
use Rattle.std.proofs.lemmas.Bool.{ltb-true}
use Rattle.silq_tree.specs.declared.node.NameId.{NameId}
use Rattle.silq_tree.specs.Syntax.{Place, whole, part, part_of_part}
use Rattle.silq_types.specs.declared.types.Scalar.{Scalar}
use Rattle.silq_types.specs.declared.types.Scalar.TheVariants as scalars
use Rattle.silq_types.specs.declared.types.Shape.{Shape}
use Rattle.silq_types.specs.declared.types.Shape.TheVariants.{Bit, UInt, Int, Array}
use Rattle.silq_types.specs.declared.types.Ty.{Ty}
use Rattle.silq_types.specs.Types.{Statics, scalar_bits, shape_bits, single_shape, place_indices}
use Rattle.silq_mean.specs.Meaning.{static_values}
use Rattle.check_scope.specs.Context.{indices, part_at, is_below, typed_as, scalar_part, part_type}
use Rattle.flat_form.specs.State.{part_shape, part_start}
use Rattle.flat_form.specs.Fine.{IndexFits}
use Rattle.flat_typed.proofs.Ordered.{clash}
use Rattle.flat_typed.proofs.Parts.{some_same}
use Rattle.flat_typed.proofs.Moving.{start_none}

-- where it ends, its shape, and that its indices fit
pub record Inside (s : Shape) (is : List ℤ) (t : Ty) : Type 0 where
  pub ends : part_start s is + shape_bits (part_shape s is) ≤ shape_bits s
  pub shape : part_shape s is ≡ t.shape
  pub fits : IndexFits s is

below_size : (i : ℤ) (n : ℕ) → is_below i n ≡ true → nat_abs i < n
below_size (pos a) n e = ltb-true a n e
below_size (negsuc a) n e = clash (sym e)

is_then : (t : Bool) (o : Option Ty) (u : Ty) → cond t o None ≡ Some u → (t ≡ true) × (o ≡ Some u)
is_then true o u e = (refl, e)
is_then false o u e = absurd (grind (arith, e))

-- the last index
pub record LastBit (is : List ℤ) (t : Ty) : Type 0 where
  pub none : is ≡ []
  pub shape : Bit ≡ t.shape

last_bit : (c : Bool) (is : List ℤ) (t : Ty) → typed_as c Bit is ≡ Some t → LastBit is t
last_bit c [] t e = record { none = refl; shape = ap (λ (u : Ty). u.shape) (some_same (record { classical = c; shape = Bit }) t e) }
last_bit c (i ∷ is) t e = absurd (grind (arith, e))

single_bits : (k : Scalar) → shape_bits (single_shape k) ≡ scalar_bits k
single_bits scalars.Bit = refl
single_bits (scalars.UInt n) = refl
single_bits (scalars.Int n) = refl

pub fits_none : (s : Shape) → IndexFits s []
fits_none Bit = tt
fits_none (UInt n) = tt
fits_none (Int n) = tt
fits_none (Array k n) = tt

-- items end within the array
items_within : (a n k : ℕ) → a < n → a * k + k ≤ n * k
items_within a n k h = let e = mul-le-mul_right {m = suc a} {n = n} k (omega (arith, h)) in let f = suc-mul a k in omega (arith, e, f)

inside_item : (c : Bool) (k : Scalar) (n : ℕ) (i : ℤ) (is : List ℤ) (t : Ty) → nat_abs i < n → scalar_part c k is ≡ Some t → Inside (Array k n) (i ∷ is) t
inside_item c k n i [] t lt e = record {
  ends = let a = items_within (nat_abs i) n (scalar_bits k) lt in let b = single_bits k in omega (arith, a, b);
  shape = ap (λ (u : Ty). u.shape) (some_same (record { classical = c; shape = single_shape k }) t e);
  fits = tt;
}
inside_item c scalars.Bit n i (j ∷ js) t lt e = absurd (grind (arith, e))
inside_item c (scalars.UInt m) n i (j ∷ js) t lt e =
    let q = is_then (is_below j m) (typed_as c Bit js) t e in
    let b = below_size j m q.0 in
    record { ends = let a = items_within (nat_abs i) n m lt in omega (arith, a, b); shape = (last_bit c js t q.1).shape; fits = b }
inside_item c (scalars.Int m) n i (j ∷ js) t lt e =
    let q = is_then (is_below j m) (typed_as c Bit js) t e in
    let b = below_size j m q.0 in
    record { ends = let a = items_within (nat_abs i) n m lt in omega (arith, a, b); shape = (last_bit c js t q.1).shape; fits = b }

pub part_inside : (c : Bool) (s : Shape) (is : List ℤ) (t : Ty) → part_type c s is ≡ Some t → Inside s is t
part_inside c s [] t e = record {
  ends = let a = start_none s in omega (arith, a);
  shape = ap (λ (u : Ty). u.shape) (some_same (record { classical = c; shape = s }) t e);
  fits = fits_none s;
}
part_inside c Bit (i ∷ is) t e = absurd (grind (arith, e))
part_inside c (UInt n) (i ∷ is) t e =
    let q = is_then (is_below i n) (typed_as c Bit is) t e in
    record { ends = let b = below_size i n q.0 in omega (arith, b); shape = (last_bit c is t q.1).shape; fits = tt }
part_inside c (Int n) (i ∷ is) t e =
    let q = is_then (is_below i n) (typed_as c Bit is) t e in
    record { ends = let b = below_size i n q.0 in omega (arith, b); shape = (last_bit c is t q.1).shape; fits = tt }
part_inside c (Array k n) (i ∷ is) t e =
    let q = is_then (is_below i n) (scalar_part c k is) t e in inside_item c k n i is t (below_size i n q.0) q.1

-- a place has no more indices than its part tells
pub exact_indices : (w : Place) (x : NameId) (statics : Statics) (values : List ℤ) → static_values (place_indices w) statics ≡ values → indices (part_at x values) ≡ values
exact_indices (whole y) x statics values e = subst (λ zs. indices (part_at x zs) ≡ zs) e refl
exact_indices (part y i) x statics values e = subst (λ zs. indices (part_at x zs) ≡ zs) e refl
exact_indices (part_of_part y i j) x statics values e = subst (λ zs. indices (part_at x zs) ≡ zs) e refl
