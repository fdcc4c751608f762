-- The theorem, from what is fine of each statement and of each list of expressions.
use Rattle.silq_tree.specs.Syntax.{Expressions, Statement}
use Rattle.flat_typed.specs.Lemmas.{ArgumentsAreFine, AcceptedIsFlattenable}
use Rattle.flat_typed.specs.Settled.{FineStatement, StatementsSettle}

-- each statement is fine between two settled contexts, and leads to a settled one; and so are values that are taken over in turn
pub record AllAreFine : Type 0 where
  pub statements : (st : Statement) → FineStatement st
  pub settle : StatementsSettle
  pub arguments : (es : Expressions) → ArgumentsAreFine es

abbrev pub AcceptedWhereFine : Type 0
AcceptedWhereFine = AllAreFine → AcceptedIsFlattenable
