-- Laws on assignments to names that are proved, where the values that names take over are fine.
use Rattle.std.specs.Prelude.{◌≡◌, false, List}
use Rattle.silq_tree.specs.declared.node.NameId.{NameId}
use Rattle.silq_tree.specs.declared.node.Spot.{Spot}
use Rattle.silq_tree.specs.Syntax.{Expression, Expressions, none, more, tuple, whole, assign, spread}
use Rattle.check_expr.specs.Expression.{is_tuple}
use Rattle.flat_typed.specs.Lemmas.{ExpressionIsFine, ArgumentsAreFine, StatementIsFine}

abbrev pub AssignNameIsFine : Type 0
AssignNameIsFine = (x : NameId) (e : Expression) (s : Spot) → ArgumentsAreFine (more e none) → StatementIsFine (assign (whole x) e s)

abbrev pub SpreadTupleIsFine : Type 0
SpreadTupleIsFine = (xs : List NameId) (es : Expressions) (at s : Spot) → ArgumentsAreFine es → StatementIsFine (spread xs (tuple es at) s)

-- one expression that may give several values
abbrev pub SpreadValueIsFine : Type 0
SpreadValueIsFine = (xs : List NameId) (e : Expression) (s : Spot) → is_tuple e ≡ false → ExpressionIsFine e → ArgumentsAreFine (more e none) → StatementIsFine (spread xs e s)
