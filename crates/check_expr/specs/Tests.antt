-- The rules of an operator.
use Rattle.std.specs.Prelude.{ℕ, Bool, not, ◌&&◌, List, [], ◌∷◌}
use Rattle.silq_tree.specs.declared.node.UnaryOp.{UnaryOp}
use Rattle.silq_tree.specs.declared.node.BinaryOp.{BinaryOp}
use Rattle.silq_tree.specs.Syntax.{Expression}
use Rattle.silq_types.specs.declared.types.Shape.{Shape}
use Rattle.silq_types.specs.declared.values.Value.{Value}
use Rattle.silq_types.specs.declared.values.Var.{Var}
use Rattle.silq_types.specs.Rules.{wrong_type, consumed_and_held}
use Rattle.silq_types.specs.Types.{shape_eq}
use Rattle.check_scope.specs.Context.{Scope}
use Rattle.check_expr.specs.Expression.{unary_fits, binary_fits}
use Rattle.check_scope.specs.Uses.{operand_clash}

abbrev pub unary_tests : UnaryOp → Shape → List (Bool × ℕ)
unary_tests op s = (not (unary_fits op s), wrong_type) ∷ []

abbrev pub binary_tests : Scope → BinaryOp → Expression → Expression → List Var → Value → Value → List (Bool × ℕ)
binary_tests sc op a b vars x y =
    (not (shape_eq x.ty.shape y.ty.shape && binary_fits op x.ty.shape), wrong_type) ∷ (operand_clash sc a b vars, consumed_and_held) ∷ []
