-- The types of an expression's values, and how they are told without a walk.
use Rattle.std.specs.Prelude.{ℕ, Bool, true, false, ◌&&◌, ◌||◌, if◌then◌else◌, List, [], ◌∷◌, map, Option, Some, None, option_map, Result, Ok, Err, ℤ, pos, nat_abs}
use Rattle.silq_tree.specs.declared.node.NameId.{NameId}
use Rattle.silq_tree.specs.declared.node.BinaryOp.{BinaryOp}
use Rattle.silq_tree.specs.Syntax.{Expression, Expressions, Place, number, typed_number, truth, pi, place, called, tuple, unary, binary, none, more}
use Rattle.static_num.specs.declared.values.StaticFault.{StaticFault}
use Rattle.static_num.specs.Static.{is_static, eval_of}
use Rattle.silq_types.specs.declared.types.Scalar.{Scalar}
use Rattle.silq_types.specs.declared.types.Shape.TheVariants.{Bit}
use Rattle.silq_types.specs.declared.types.Ty.{Ty}
use Rattle.silq_types.specs.declared.values.Part.{Part}
use Rattle.silq_types.specs.declared.values.Value.{Value}
use Rattle.silq_types.specs.declared.values.Var.{Var}
use Rattle.silq_types.specs.declared.signature.Returned.{Returned}
use Rattle.silq_types.specs.declared.signature.Signature.{Signature}
use Rattle.silq_types.specs.Known.{Signatures, signature_of}
use Rattle.silq_types.specs.Rules.{Fault}
use Rattle.silq_types.specs.Types.{Statics, quantum, single_shape, place_name, place_indices}
use Rattle.silq_mean.specs.Written.{scalar_type, is_count, most_items}
use Rattle.check_scope.specs.Context.{Scope, is_known_name, find_var, variable, part_at, indices, part_type}
use Rattle.silq_types.specs.declared.built_in.BuiltIn.{BuiltIn}
use Rattle.silq_types.specs.declared.built_in.BuiltIn.TheVariants.{Measure, Vector}
use Rattle.silq_types.specs.Calls.{Found, built_in, find_fun}
use Rattle.check_scope.specs.Uses.{index_values}
use Rattle.check_expr.specs.Expression.{binary_shape, repeated}

-- ---- types that come from where an expression stands

abbrev pub some_static : Statics → Expressions → Bool
some_static statics none = false
some_static statics (more e es) = is_static statics e || some_static statics es

-- whether it is static, or a tuple with a static item
abbrev pub has_static : Statics → Expression → Bool
has_static statics (tuple es s) = some_static statics es
has_static statics e = is_static statics e

abbrev pub types_of_values : List Value → List Ty
types_of_values vs = map (λ (v : Value). v.ty) vs

-- the types of these values, none where the expression takes them from where it stands
abbrev pub shape_of : Statics → Expression → List Value → Option (List Ty)
shape_of statics e vs = if has_static statics e then None else Some (types_of_values vs)

-- ---- the types as they are told; any type stands where the rules refuse the expression

abbrev pub any_type : Ty
any_type = quantum Bit

abbrev pub or_any : Option Ty → Ty
or_any None = any_type
or_any (Some t) = t

abbrev pub first_type : List Ty → Ty
first_type [] = any_type
first_type (t ∷ ts) = t

abbrev pub scalar_told : Result Scalar Fault → Ty
scalar_told (Ok k) = quantum (single_shape k)
scalar_told (Err f) = any_type

-- the part that a place names, where each index has a value
abbrev pub part_of_place : Statics → Place → Option Part
part_of_place statics w = option_map (part_at (place_name w)) (index_values statics (place_indices w))

abbrev pub var_type : List Var → Part → Option Ty
var_type vars p = option_map (λ (v : Var). v.ty) (find_var vars p)

-- the type of a variable, or of a part of the variable with this type
abbrev pub found_type : Option Ty → Option Ty → Part → Ty
found_type (Some t) w p = t
found_type None (Some w) p = or_any (part_type w.classical w.shape (indices p))
found_type None None p = any_type

abbrev pub part_told : List Var → NameId → Option Part → Ty
part_told vars x None = any_type
part_told vars x (Some p) = found_type (var_type vars p) (var_type vars (variable x)) p

abbrev pub joined_type : BinaryOp → Ty → Ty → Ty
joined_type op x y = record { classical = x.classical && y.classical; shape = binary_shape op x.shape }

-- of two operands, with whether each is static: a static one takes the type of the other
abbrev pub binary_type : BinaryOp → Bool → Bool → Ty → Ty → Ty
binary_type op a b x y = if a then joined_type op y y else (if b then joined_type op x x else joined_type op x y)

abbrev pub gate_type : BuiltIn → Ty → Ty
gate_type Measure t = record { classical = true; shape = t.shape }
gate_type b t = quantum t.shape

abbrev pub count_told : Result ℤ StaticFault → ℕ
count_told (Ok z) = if is_count most_items z then nat_abs z else 0
count_told (Err f) = 0

abbrev pub length_told : Statics → Expressions → ℕ
length_told statics none = 0
length_told statics (more a rest) = count_told (eval_of statics a)

-- by the length of `vector` and the types of the first two arguments
abbrev pub built_in_type : BuiltIn → ℕ → Ty → Ty → Ty
built_in_type Vector n first second = quantum (repeated second.shape (pos n))
built_in_type b n first second = gate_type b first

abbrev pub result_types : List Returned → List Ty
result_types rs = map (λ (r : Returned). r.ty) rs

abbrev pub signed_types : Option Signature → List Ty
signed_types None = []
signed_types (Some s) = result_types s.results

-- of an instance, by the values of its static arguments
abbrev pub instance_types : Signatures → ℕ → Option (List ℤ) → List Ty
instance_types met f None = []
instance_types met f (Some zs) = signed_types (signature_of met (record { fun = record { number = f }; statics = zs }))

abbrev pub call_types : Statics → Signatures → Option BuiltIn → Option Found → Expressions → Expressions → Ty → Ty → List Ty
call_types statics met (Some b) f ss args first second = built_in_type b (length_told statics args) first second ∷ []
call_types statics met None (Some f) ss args first second = instance_types met f.number (index_values statics ss)
call_types statics met None None ss args first second = []

abbrev mutual
  -- the type of the one value
  pub type_of : Expression → Scope → List Var → Signatures → Ty
  type_of (number n s) sc vars met = any_type
  type_of (typed_number n k s) sc vars met = scalar_told (scalar_type sc.statics (is_known_name sc vars) k s)
  type_of (truth b s) sc vars met = any_type
  type_of (pi s) sc vars met = any_type
  type_of (place w s) sc vars met = part_told vars (place_name w) (part_of_place sc.statics w)
  type_of (called f ss args s) sc vars met =
      first_type (call_types sc.statics met (built_in sc.words f) (find_fun sc.before f) ss args (first_item args sc vars met) (second_item args sc vars met))
  type_of (tuple es s) sc vars met = any_type
  type_of (unary op e s) sc vars met = type_of e sc vars met
  type_of (binary op a b s) sc vars met = binary_type op (is_static sc.statics a) (is_static sc.statics b) (type_of a sc vars met) (type_of b sc vars met)

  pub first_item : Expressions → Scope → List Var → Signatures → Ty
  first_item none sc vars met = any_type
  first_item (more e es) sc vars met = type_of e sc vars met

  pub second_item : Expressions → Scope → List Var → Signatures → Ty
  second_item none sc vars met = any_type
  second_item (more e es) sc vars met = first_item es sc vars met

abbrev pub item_types : Expressions → Scope → List Var → Signatures → List Ty
item_types none sc vars met = []
item_types (more e es) sc vars met = type_of e sc vars met ∷ item_types es sc vars met

-- the types of all values
abbrev pub types_of : Expression → Scope → List Var → Signatures → List Ty
types_of (tuple es s) sc vars met = item_types es sc vars met
types_of (called f ss args s) sc vars met =
    call_types sc.statics met (built_in sc.words f) (find_fun sc.before f) ss args (first_item args sc vars met) (second_item args sc vars met)
types_of e sc vars met = type_of e sc vars met ∷ []

abbrev pub types_told : Expression → Scope → List Var → Signatures → Option (List Ty)
types_told e sc vars met = if has_static sc.statics e then None else Some (types_of e sc vars met)
