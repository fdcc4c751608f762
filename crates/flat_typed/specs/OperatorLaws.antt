-- Laws on operators that are proved.
use Rattle.silq_tree.specs.declared.node.Spot.{Spot}
use Rattle.silq_tree.specs.declared.node.UnaryOp.{UnaryOp}
use Rattle.silq_tree.specs.declared.node.BinaryOp.{BinaryOp}
use Rattle.silq_tree.specs.Syntax.{Expression, unary, binary}
use Rattle.flat_typed.specs.Lemmas.{ExpressionIsFine}

abbrev pub UnaryIsFine : Type 0
UnaryIsFine = (op : UnaryOp) (e : Expression) (s : Spot) → ExpressionIsFine e → ExpressionIsFine (unary op e s)

abbrev pub BinaryIsFine : Type 0
BinaryIsFine = (op : BinaryOp) (a b : Expression) (s : Spot) → ExpressionIsFine a → ExpressionIsFine b → ExpressionIsFine (binary op a b s)
