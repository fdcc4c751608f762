-- Calls as the code has them: arguments by their numbers in the arena.
use Rattle.std.specs.Prelude.{Bool, List, Option, Some, None}
use Rattle.silq_io.specs.declared.limit.LimitKind.{LimitKind}
use Rattle.silq_tree.specs.declared.node.ExprId.{ExprId}
use Rattle.silq_tree.specs.declared.node.Spot.{Spot}
use Rattle.silq_tree.specs.Syntax.{Expressions}
use Rattle.silq_tree.specs.Standing.{expressions_of}
use Rattle.silq_tree.specs.Arena.{expr_at}
use Rattle.silq_types.specs.declared.values.Value.{Value}
use Rattle.silq_types.specs.declared.signature.Returned.{Returned}
use Rattle.silq_types.specs.declared.need.Need.{Need}
use Rattle.silq_types.specs.declared.need.Need.TheVariants as needs
use Rattle.check_scope.specs.Walk.{Met, limited, new}
use Rattle.check_scope.specs.Context.{Check, ◌>>=◌, ◌>>◌, give_back}
use Rattle.check_expr.specs.Expression.{Arguments, arguments, later_arguments, result_values, unnamed_rule, lone_linear}
use Rattle.check_scope.specs.Library.{Shelf}
use Rattle.check_scope.specs.State.{State, scope_in}

-- what a call of a new instance finds, by the limit that it passes
abbrev pub met_new : Option LimitKind → Met
met_new None = new
met_new (Some limit) = limited limit

abbrev pub items : Shelf → List ExprId → Expressions
items l ids = expressions_of (expr_at l.nodes) ids

-- the walk of the arguments, and of those after the first
abbrev pub walk_of : Shelf → State → List ExprId → Arguments
walk_of l s args = λ asked. arguments (items l args) (scope_in l s) needs.Held asked

abbrev pub later_of : Shelf → State → List ExprId → Check (List Value)
later_of l s args = later_arguments (items l args) (scope_in l s)

-- the values of a call whose arguments have these values, with its rule
abbrev pub instance_values : Bool → List Value → List Returned → Spot → Need → Check (List Value)
instance_values lifts vs results s need = do
  xs ← result_values lifts vs results
  unnamed_rule s need (lone_linear xs)
  give_back xs
