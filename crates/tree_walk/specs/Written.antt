-- Sizes and types as they are written, where they have a value; and what a call asks and takes over.
use Rattle.std.specs.Prelude.{ℕ, Bool, ◌||◌, if◌then◌else◌, List, [], ◌∷◌, option_map, Option, Some, None, Result, Ok, Err, ℤ, nat_abs}
use Rattle.silq_tree.specs.declared.node.NameId.{NameId}
use Rattle.silq_tree.specs.declared.node.ExprId.{ExprId}
use Rattle.silq_tree.specs.declared.node.Mark.{Mark}
use Rattle.silq_tree.specs.declared.node.ParamNode.{ParamNode}
use Rattle.silq_tree.specs.declared.node.TypeNode.{TypeNode}
use Rattle.silq_tree.specs.Syntax.{Expression, ScalarType, bit, uint, int}
use Rattle.silq_tree.specs.Standing as standing
use Rattle.static_num.specs.declared.values.StaticFault.{StaticFault}
use Rattle.static_num.specs.Static.{eval_of}
use Rattle.silq_types.specs.declared.types.Scalar.{Scalar}
use Rattle.silq_types.specs.declared.types.Scalar.TheVariants as scalars
use Rattle.silq_types.specs.declared.types.Shape.{Shape}
use Rattle.silq_types.specs.declared.types.Shape.TheVariants.{Bit, Array}
use Rattle.silq_types.specs.declared.types.Ty.{Ty}
use Rattle.silq_types.specs.Types.{Statics, quantum, single_shape, is_lifted}
use Rattle.silq_mean.specs.Written.{is_count, most_bits, most_items}
use Rattle.silq_types.specs.declared.need.Need.{Need}
use Rattle.silq_types.specs.declared.need.Need.TheVariants as needs
use Rattle.silq_types.specs.Calls.{is_consumed}
use Rattle.check_scope.specs.Used.{node_need}
use Rattle.silq_mean.specs.declared.receiver.Receiver.{Receiver}
use Rattle.silq_mean.specs.declared.receiver.Receiver.TheVariants.{Argument}
use Rattle.silq_mean.specs.Effect.{Effect, nothing, step, give_part, ◌>>◌}
use Rattle.silq_mean.specs.Meaning as meaning

-- ---- sizes and types

abbrev pub counted : ℕ → Result ℤ StaticFault → Option ℕ
counted most (Ok z) = if is_count most z then Some (nat_abs z) else None
counted most (Err f) = None

-- a size from 1 to most
abbrev pub size_told : ℕ → Statics → Expression → Option ℕ
size_told most statics e = counted most (eval_of statics e)

abbrev pub scalar_told : Statics → ScalarType → Option Scalar
scalar_told statics bit = Some scalars.Bit
scalar_told statics (uint e) = option_map scalars.UInt (size_told most_bits statics e)
scalar_told statics (int e) = option_map scalars.Int (size_told most_bits statics e)

abbrev pub shape_told : Statics → Option Expression → Scalar → Option Shape
shape_told statics None k = Some (single_shape k)
shape_told statics (Some n) k = option_map (Array k) (size_told most_items statics n)

abbrev pub shape_by : Statics → Option Expression → Option Scalar → Option Shape
shape_by statics n None = None
shape_by statics n (Some k) = shape_told statics n k

abbrev pub type_by : Bool → Option Shape → Ty
type_by c None = quantum Bit
type_by c (Some h) = record { classical = c; shape = h }

abbrev pub scalar_or_bit : Option Scalar → Scalar
scalar_or_bit None = scalars.Bit
scalar_or_bit (Some k) = k

-- ---- what takes values over

module _ (statics : Statics) (at : ExprId → Expression) where
  abbrev pub node_type : TypeNode → Ty
  node_type t = meaning.type_of statics (standing.type_of at t)

  abbrev pub param_taker : Mark → ParamNode → Receiver
  param_taker m p = Argument (node_need m p) (node_type p.ty)

  abbrev pub param_shape : ParamNode → Shape
  param_shape p = (node_type p.ty).shape

-- the names of the parameters that are not consumed
abbrev pub held_names : List (NameId × Need × Ty) → List NameId
held_names [] = []
held_names (p ∷ ps) = if is_consumed p.1 then held_names ps else p.0 ∷ held_names ps

-- their values in turn, as those of the entry at its end
abbrev pub give_names : List NameId → Effect
give_names [] = nothing
give_names (x ∷ xs) = step (give_part needs.Held x []) >> give_names xs

abbrev pub held_nodes : Mark → List ParamNode → List NameId
held_nodes m [] = []
held_nodes m (p ∷ ps) = if p.held || is_lifted m then p.name ∷ held_nodes m ps else held_nodes m ps
