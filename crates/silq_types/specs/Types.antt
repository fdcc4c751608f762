-- Types, the names in an expression, and where expressions begin.
use Rattle.std.specs.Prelude.{ℕ, ◌+◌, ◌*◌, ◌-◌, ◌^◌, Bool, true, false, not, ◌&&◌, ◌==◌, if◌then◌else◌, List, [], ◌∷◌, ◌++◌, Option, Some, None, ℤ, pos, negsuc, nat_lt}
use Rattle.silq_tree.specs.declared.node.NameId.{NameId}
use Rattle.silq_tree.specs.declared.node.Spot.{Spot}
use Rattle.silq_tree.specs.declared.node.Mark.{Mark}
use Rattle.silq_tree.specs.declared.node.Mark.TheVariants as marks
use Rattle.silq_tree.specs.Syntax.{Expression, Expressions, ScalarType, number, typed_number, truth, pi, place, called, tuple, unary, binary, none, more, bit, uint, int, Place, whole, part, part_of_part}
use Rattle.silq_types.specs.declared.types.Scalar.{Scalar}
use Rattle.silq_types.specs.declared.types.Scalar.TheVariants as scalars
use Rattle.silq_types.specs.declared.types.Shape.{Shape}
use Rattle.silq_types.specs.declared.types.Shape.TheVariants.{Bit, UInt, Int, Array}
use Rattle.silq_types.specs.declared.types.Ty.{Ty}
use Rattle.silq_types.specs.declared.values.Origin.{Origin}
use Rattle.silq_types.specs.declared.values.Origin.TheVariants.{Held, Linear}

-- the values of static parameters and loop variables, the innermost last
abbrev pub Statics : Type 0
Statics = List (NameId × ℤ)

abbrev pub same_name : NameId → NameId → Bool
same_name x y = x.number == y.number

-- ---- types

abbrev pub single_shape : Scalar → Shape
single_shape scalars.Bit = Bit
single_shape (scalars.UInt n) = UInt n
single_shape (scalars.Int n) = Int n

abbrev pub scalar_eq : Scalar → Scalar → Bool
scalar_eq scalars.Bit scalars.Bit = true
scalar_eq (scalars.UInt n) (scalars.UInt m) = n == m
scalar_eq (scalars.Int n) (scalars.Int m) = n == m
scalar_eq a b = false

abbrev pub shape_eq : Shape → Shape → Bool
shape_eq Bit Bit = true
shape_eq (UInt n) (UInt m) = n == m
shape_eq (Int n) (Int m) = n == m
shape_eq (Array a n) (Array b m) = scalar_eq a b && n == m
shape_eq a b = false

abbrev pub bool_eq : Bool → Bool → Bool
bool_eq true b = b
bool_eq false b = not b

abbrev pub ty_eq : Ty → Ty → Bool
ty_eq a b = bool_eq a.classical b.classical && shape_eq a.shape b.shape

abbrev pub quantum : Shape → Ty
quantum s = record { classical = false; shape = s }

-- how many bits a value has
abbrev pub scalar_bits : Scalar → ℕ
scalar_bits scalars.Bit = 1
scalar_bits (scalars.UInt n) = n
scalar_bits (scalars.Int n) = n

abbrev pub shape_bits : Shape → ℕ
shape_bits Bit = 1
shape_bits (UInt n) = n
shape_bits (Int n) = n
shape_bits (Array k n) = scalar_bits k * n

abbrev pub is_bit : Shape → Bool
is_bit Bit = true
is_bit s = false

abbrev pub is_number : Shape → Bool
is_number (UInt n) = true
is_number (Int n) = true
is_number s = false

abbrev pub is_array : Shape → Bool
is_array (Array k n) = true
is_array s = false

abbrev pub is_scalar : Shape → Bool
is_scalar s = not (is_array s)

abbrev pub is_linear : Origin → Bool
is_linear Linear = true
is_linear o = false

abbrev pub is_held : Origin → Bool
is_held Held = true
is_held o = false

-- a number that is one of the type's values
abbrev pub below : ℕ → ℤ → Bool
below n (pos z) = nat_lt z n
below n (negsuc z) = false

abbrev pub within : ℕ → ℤ → Bool
within n (pos z) = nat_lt z n
within n (negsuc z) = nat_lt z n

abbrev pub fits : Shape → ℤ → Bool
fits Bit z = below 2 z
fits (UInt w) z = below (2 ^ w) z
fits (Int w) z = within (2 ^ (w - 1)) z
fits (Array k n) z = false

-- ---- the names in an expression

abbrev pub place_name : Place → NameId
place_name (whole x) = x
place_name (part x i) = x
place_name (part_of_part x i j) = x

abbrev pub place_indices : Place → Expressions
place_indices (whole x) = none
place_indices (part x i) = more i none
place_indices (part_of_part x i j) = more i (more j none)

-- each name of a place in it, with the place of its first token, from left to right
abbrev mutual
  pub names : Expression → List (NameId × Spot)
  names (number n s) = []
  names (typed_number n k s) = scalar_names k
  names (truth b s) = []
  names (pi s) = []
  names (place (whole x) s) = (x, s) ∷ []
  names (place (part x i) s) = (x, s) ∷ names i
  names (place (part_of_part x i j) s) = (x, s) ∷ names i ++ names j
  names (called f c a s) = all_names c ++ all_names a
  names (tuple es s) = all_names es
  names (unary op e s) = names e
  names (binary op a b s) = names a ++ names b

  pub all_names : Expressions → List (NameId × Spot)
  all_names none = []
  all_names (more e es) = names e ++ all_names es

  pub scalar_names : ScalarType → List (NameId × Spot)
  scalar_names bit = []
  scalar_names (uint e) = names e
  scalar_names (int e) = names e

abbrev pub size_names : Option Expression → List (NameId × Spot)
size_names None = []
size_names (Some e) = names e

-- the first name that does not pass
abbrev pub first_unknown : (NameId → Bool) → List (NameId × Spot) → Option Spot
first_unknown known [] = None
first_unknown known (n ∷ rest) = if known n.0 then first_unknown known rest else Some n.1

abbrev pub count : Expressions → ℕ
count none = 0
count (more e es) = count es + 1

-- the place of an expression's first token
abbrev pub at : Expression → Spot
at (number n s) = s
at (typed_number n k s) = s
at (truth b s) = s
at (pi s) = s
at (place p s) = s
at (called f c a s) = s
at (tuple es s) = s
at (unary op e s) = s
at (binary op a b s) = s

abbrev pub is_lifted : Mark → Bool
is_lifted marks.Lifted = true
is_lifted m = false
