-- The forms of an expression that is not static, each by itself.
use Rattle.std.specs.Prelude.{List, [], ◌∷◌, ℤ}
use Rattle.silq_tree.specs.declared.node.Spot.{Spot}
use Rattle.silq_tree.specs.declared.node.UnaryOp.{UnaryOp}
use Rattle.silq_tree.specs.declared.node.BinaryOp.{BinaryOp}
use Rattle.silq_tree.specs.Syntax.{Expression, Place, ScalarType}
use Rattle.silq_types.specs.declared.types.Ty.{Ty}
use Rattle.silq_types.specs.declared.values.Value.{Value}
use Rattle.silq_types.specs.declared.need.Need.{Need}
use Rattle.silq_types.specs.declared.need.Need.TheVariants as needs
use Rattle.check_scope.specs.Context.{Scope, Check, ◌>>=◌, give_back}
use Rattle.check_expr.specs.Expression.{expr, lone_wants, single, typed_value, unary_value, binary_value, operands}
use Rattle.check_scope.specs.Places.{use_place}

abbrev pub number_values : Scope → ℤ → ScalarType → Spot → Check (List Value)
number_values sc n k s = typed_value sc n k s >>= (λ v. give_back (v ∷ []))

abbrev pub part_values : Scope → Place → Spot → Need → Check (List Value)
part_values sc p s need = use_place sc p s need >>= (λ v. give_back (v ∷ []))

abbrev pub unary_values : Scope → UnaryOp → Expression → Spot → Check (List Value)
unary_values sc op e s = expr e sc needs.Held [] >>= (λ vs. single e vs >>= unary_value op s)

-- one operand, of which types are asked
abbrev pub operand : Scope → Expression → List Ty → Check Value
operand sc e wants = expr e sc needs.Held (lone_wants e wants) >>= single e

abbrev pub both_operands : Scope → Expression → Expression → Check (Value × Value)
both_operands sc a b = operands sc a (operand sc a) (operand sc b)

abbrev pub binary_values : Scope → BinaryOp → Expression → Expression → Spot → Check (List Value)
binary_values sc op a b s = both_operands sc a b >>= (λ r. binary_value sc op a b s r.0 r.1)
