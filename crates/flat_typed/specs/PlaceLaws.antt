-- Laws that are proved on numbers and places as expressions, and on assignments to parts.
use Rattle.std.specs.Prelude.{Bool, ℤ}
use Rattle.silq_tree.specs.declared.node.NameId.{NameId}
use Rattle.silq_tree.specs.declared.node.Spot.{Spot}
use Rattle.silq_tree.specs.Syntax.{Expression, ScalarType, Place, number, typed_number, truth, pi, place, part, part_of_part, assign}
use Rattle.flat_typed.specs.Lemmas.{ExpressionIsFine, StatementIsFine}

-- numbers and truth values are static values, and a number with a type shows constants
pub record NumbersAreFine : Type 0 where
  pub static_number : (n : ℤ) (s : Spot) → ExpressionIsFine (number n s)
  pub with_type : (n : ℤ) (k : ScalarType) (s : Spot) → ExpressionIsFine (typed_number n k s)
  pub truth_value : (b : Bool) (s : Spot) → ExpressionIsFine (truth b s)
  pub no_angle : (s : Spot) → ExpressionIsFine (pi s)

-- a static value, a variable, a part of one, or a part that an assignment took out
abbrev pub PlacesAreFine : Type 0
PlacesAreFine = (w : Place) (s : Spot) → ExpressionIsFine (place w s)

-- by one index value and by two
pub record PartAssignmentsAreFine : Type 0 where
  pub of_variable : (x : NameId) (i e : Expression) (s : Spot) → ExpressionIsFine e → StatementIsFine (assign (part x i) e s)
  pub of_item : (x : NameId) (i j e : Expression) (s : Spot) → ExpressionIsFine e → StatementIsFine (assign (part_of_part x i j) e s)
