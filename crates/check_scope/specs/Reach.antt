-- The names in reach of an expression.
use Rattle.std.specs.Prelude.{Bool, ◌||◌, List, [], ◌++◌, Option, is_some, Result}
use Rattle.silq_tree.specs.declared.node.NameId.{NameId}
use Rattle.silq_tree.specs.declared.node.Spot.{Spot}
use Rattle.silq_tree.specs.Syntax.{Expression, ScalarType}
use Rattle.silq_types.specs.declared.values.Var.{Var}
use Rattle.silq_types.specs.Types.{Statics, first_unknown, scalar_names, size_names}
use Rattle.silq_mean.specs.Written.{value_of, all_known, moved_to}
use Rattle.silq_types.specs.Rules.{Fault}
use Rattle.check_scope.specs.Context.{is_variable}

-- whether a name has a value, or is one of these variables
abbrev pub is_in_reach : Statics → List Var → NameId → Bool
is_in_reach statics vars x = is_some (value_of statics x) || is_variable vars x

-- the names in the width and the length of a header's type, each fault at one place
abbrev pub type_known : Statics → ScalarType → Option Expression → Spot → Result (Unit {0}) Fault
type_known statics k n s = all_known (moved_to s (first_unknown (is_in_reach statics []) (scalar_names k ++ size_names n)))
