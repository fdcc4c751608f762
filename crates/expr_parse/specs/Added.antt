-- One more expression.
use Rattle.std.specs.Prelude.{◌≡◌, ◌+◌, ◌≤◌, List, length}
use Rattle.silq_tree.specs.declared.node.ExprId.{ExprId}
use Rattle.silq_tree.specs.declared.node.Expr.{Expr}
use Rattle.silq_tree.specs.declared.node.BinaryOp.{BinaryOp}
use Rattle.silq_tree.specs.declared.node.BinaryOp.TheVariants as ops
use Rattle.silq_tree.specs.Arena.{Forest, IsArena, expr_parents, with_expr}
use Rattle.silq_tree.specs.Children.{AreExprsBelow, expr_count}
use Rattle.silq_grammar.specs.declared.token.Terminal.{Terminal}
use Rattle.silq_grammar.specs.declared.token.Terminal.TheVariants as t

-- these expressions are there, differ and have no parent
pub record AreFree (f : Forest) (ids : List ExprId) : Type 0 where
  pub there : AreExprsBelow (length f.exprs) ids
  pub parents : (id : ExprId) → expr_parents f id + expr_count id ids ≤ 1

-- the node was added to an arena, with this number
pub record IsAdded (old new : Forest) (e : Expr) (id : ExprId) : Type 0 where
  pub arena : IsArena old
  pub number : id.number ≡ length old.exprs
  pub is : new ≡ with_expr old e

-- how an operator between two operands is written
abbrev pub sign_of : BinaryOp → Terminal
sign_of ops.Or = t.Or
sign_of ops.And = t.And
sign_of ops.Eq = t.Equal
sign_of ops.Ne = t.NotEqual
sign_of ops.Lt = t.Below
sign_of ops.Le = t.AtMost
sign_of ops.Gt = t.Above
sign_of ops.Ge = t.AtLeast
sign_of ops.Add = t.Plus
sign_of ops.Sub = t.Minus
sign_of ops.Mul = t.Star
sign_of ops.Div = t.Slash
