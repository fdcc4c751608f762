-- The types that are written, under the values of static names.
use Rattle.std.specs.Prelude.{ℕ, Bool, true, false, ◌&&◌, ◌||◌, ◌++◌, if◌then◌else◌, List, [], ◌∷◌, Option, Some, None, is_some, Result, Ok, Err, ℤ, pos, negsuc, nat_abs, nat_lt, nat_le}
use Rattle.silq_tree.specs.declared.node.NameId.{NameId}
use Rattle.silq_tree.specs.declared.node.Spot.{Spot}
use Rattle.silq_tree.specs.declared.node.Mark.{Mark}
use Rattle.silq_tree.specs.Syntax.{Expression, ScalarType, bit, uint, int, WrittenType, scalar, array, Parameter, Function}
use Rattle.static_num.specs.declared.values.StaticFault.{StaticFault}
use Rattle.static_num.specs.Static.{eval_of, value_of_name}
use Rattle.silq_types.specs.declared.types.Scalar.{Scalar}
use Rattle.silq_types.specs.declared.types.Scalar.TheVariants as scalars
use Rattle.silq_types.specs.declared.types.Shape.{Shape}
use Rattle.silq_types.specs.declared.types.Shape.TheVariants.{Array}
use Rattle.silq_types.specs.declared.types.Ty.{Ty}
use Rattle.silq_types.specs.declared.signature.Param.{Param}
use Rattle.silq_types.specs.Rules.{Fault, rule, and_then, unknown_name, bad_size, lifted_without_result, not_static}
use Rattle.silq_types.specs.Types.{Statics, single_shape, scalar_names, size_names, first_unknown, at, is_lifted}

abbrev pub value_of : Statics → NameId → Option ℤ
value_of statics x = value_of_name statics x None

abbrev pub is_count : ℕ → ℤ → Bool
is_count most (pos n) = nat_lt 0 n && nat_le n most
is_count most (negsuc n) = false

abbrev pub most_bits : ℕ
most_bits = 64

abbrev pub most_items : ℕ
most_items = 4096

abbrev pub or_not_static : Spot → Result ℤ StaticFault → Result ℤ Fault
or_not_static s (Ok v) = Ok v
or_not_static s (Err f) = Err (rule not_static s)

-- the value of a needed static expression, with the fault at s
abbrev pub needed_at : Statics → Expression → Spot → Result ℤ Fault
needed_at statics e s = or_not_static s (eval_of statics e)

abbrev pub sized : ℕ → Spot → (ℕ → Scalar) → ℤ → Result Scalar Fault
sized most s make z = if is_count most z then Ok (make (nat_abs z)) else Err (rule bad_size s)

-- the widths and lengths are told before their sizes are tested
abbrev pub width_of : Statics → ScalarType → Spot → Result (Option ℤ) Fault
width_of statics bit s = Ok None
width_of statics (uint e) s = and_then (needed_at statics e s) (λ v. Ok (Some v))
width_of statics (int e) s = and_then (needed_at statics e s) (λ v. Ok (Some v))

abbrev pub length_of : Statics → Option Expression → Spot → Result (Option ℤ) Fault
length_of statics None s = Ok None
length_of statics (Some e) s = and_then (needed_at statics e s) (λ v. Ok (Some v))

abbrev pub scalar_by : ScalarType → Option ℤ → Spot → Result Scalar Fault
scalar_by (uint e) (Some z) s = sized most_bits s scalars.UInt z
scalar_by (int e) (Some z) s = sized most_bits s scalars.Int z
scalar_by k z s = Ok scalars.Bit

abbrev pub shape_by : Scalar → Option ℤ → Spot → Result Shape Fault
shape_by k None s = Ok (single_shape k)
shape_by k (Some z) s = if is_count most_items z then Ok (Array k (nat_abs z)) else Err (rule bad_size s)

abbrev pub all_known : Option Spot → Result (Unit {0}) Fault
all_known None = Ok tt
all_known (Some s) = Err (rule unknown_name s)

-- the first token of a width
abbrev pub width_spot : ScalarType → Spot → Spot
width_spot bit s = s
width_spot (uint e) s = at e
width_spot (int e) s = at e

-- the type of a number at s: the names of its width first, each at its own token, then the width at its first token, then its size at s
abbrev pub scalar_type : Statics → (NameId → Bool) → ScalarType → Spot → Result Scalar Fault
scalar_type statics known k s =
    and_then (all_known (first_unknown known (scalar_names k))) (λ u. and_then (width_of statics k (width_spot k s)) (λ w. scalar_by k w s))

-- ---- the types of a header under its static values

abbrev pub is_classical : WrittenType → Bool
is_classical (scalar c k s) = c
is_classical (array c k e s) = c

abbrev pub written_scalar : WrittenType → ScalarType
written_scalar (scalar c k s) = k
written_scalar (array c k e s) = k

abbrev pub written_size : WrittenType → Option Expression
written_size (scalar c k s) = None
written_size (array c k e s) = Some e

abbrev pub written_at : WrittenType → Spot
written_at (scalar c k s) = s
written_at (array c k e s) = s

-- each fault of a header's type stands at the type's first token
abbrev pub moved_to : Spot → Option Spot → Option Spot
moved_to s None = None
moved_to s (Some t) = Some s

abbrev pub header_type : Statics → WrittenType → Spot → Result Ty Fault
header_type statics t s =
    and_then (all_known (moved_to s (first_unknown (λ x. is_some (value_of statics x)) (scalar_names (written_scalar t) ++ size_names (written_size t))))) (λ u.
    and_then (width_of statics (written_scalar t) s) (λ w.
    and_then (length_of statics (written_size t) s) (λ n.
    and_then (scalar_by (written_scalar t) w s) (λ k.
    and_then (shape_by k n s) (λ h.
    Ok (record { classical = is_classical t; shape = h }))))))

pub record Header : Type 0 where
  pub params : List Param
  pub results : List Ty

-- where the faults of a header stand: at the type itself, or for the entry at its `def`
abbrev pub Where : Type 0
Where = Spot → Spot

abbrev pub param_types : Statics → Mark → Where → List Parameter → Result (List Param) Fault
param_types statics m place_of [] = Ok []
param_types statics m place_of (p ∷ ps) =
    and_then (header_type statics p.ty (place_of (written_at p.ty))) (λ t.
    and_then (param_types statics m place_of ps) (λ ts.
    Ok (record { ty = t; held = p.held || is_lifted m } ∷ ts)))

abbrev pub result_types : Statics → Where → List WrittenType → Result (List Ty) Fault
result_types statics place_of [] = Ok []
result_types statics place_of (r ∷ rs) =
    and_then (header_type statics r (place_of (written_at r))) (λ t.
    and_then (result_types statics place_of rs) (λ ts. Ok (t ∷ ts)))

abbrev pub is_empty : {A : Type 0} → List A → Bool
is_empty [] = true
is_empty (x ∷ xs) = false

abbrev pub header_of : Statics → Where → Function → Result Header Fault
header_of statics place_of f =
    and_then (param_types statics f.mark place_of f.params) (λ ps.
    and_then (result_types statics place_of f.results) (λ rs.
    if is_lifted f.mark && is_empty f.results then Err (rule lifted_without_result f.at) else Ok (record { params = ps; results = rs })))
