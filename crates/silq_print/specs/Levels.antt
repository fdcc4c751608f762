-- The levels of expressions: the level of a sign, those of its operands, and where parentheses stand.
use Rattle.std.specs.Prelude.{ℕ, Bool, true, false, nat_eq, nat_lt, List, [], ◌∷◌, ◌++◌}
use Rattle.silq_tree.specs.declared.node.UnaryOp.{UnaryOp}
use Rattle.silq_tree.specs.declared.node.UnaryOp.TheVariants as unaries
use Rattle.silq_tree.specs.declared.node.BinaryOp.{BinaryOp}
use Rattle.silq_tree.specs.declared.node.BinaryOp.TheVariants as ops
use Rattle.silq_tree.specs.Syntax as tree
use Rattle.silq_grammar.specs.declared.token.Token.{Token}
use Rattle.silq_grammar.specs.declared.token.Token.TheVariants.{Fixed}
use Rattle.silq_grammar.specs.declared.token.Terminal.{Terminal}
use Rattle.silq_grammar.specs.declared.token.Terminal.TheVariants as t
use Rattle.silq_grammar.specs.Spelled.{expr_text}
use Rattle.silq_print.specs.Bare.{nowhere}
use Rattle.silq_print.specs.Ways.{written}
use Rattle.silq_print.specs.declared.level.Level.{Level}
use Rattle.silq_print.specs.declared.level.Level.TheVariants as l

abbrev pub rank : Level → ℕ
rank l.Or = 0
rank l.And = 1
rank l.Comparison = 2
rank l.Sum = 3
rank l.Product = 4
rank l.Unary = 5

abbrev pub level_of : BinaryOp → Level
level_of ops.Or = l.Or
level_of ops.And = l.And
level_of ops.Eq = l.Comparison
level_of ops.Ne = l.Comparison
level_of ops.Lt = l.Comparison
level_of ops.Le = l.Comparison
level_of ops.Gt = l.Comparison
level_of ops.Ge = l.Comparison
level_of ops.Add = l.Sum
level_of ops.Sub = l.Sum
level_of ops.Mul = l.Product
level_of ops.Div = l.Product

abbrev pub left_of : Level → Level
left_of l.Or = l.Or
left_of l.And = l.And
left_of l.Comparison = l.Sum
left_of l.Sum = l.Sum
left_of l.Product = l.Product
left_of l.Unary = l.Unary

abbrev pub right_of : Level → Level
right_of l.Or = l.And
right_of l.And = l.Comparison
right_of l.Comparison = l.Sum
right_of l.Sum = l.Product
right_of l.Product = l.Unary
right_of l.Unary = l.Unary

-- the loosest level of an operand without parentheses
abbrev pub left_level : BinaryOp → Level
left_level op = left_of (level_of op)

abbrev pub right_level : BinaryOp → Level
right_level op = right_of (level_of op)

-- whether a sign of one level goes on with a chain on the other; comparisons do not chain
abbrev pub goes_on_by : Level → Level → Bool
goes_on_by l.Comparison level = false
goes_on_by l.Or level = nat_eq 0 (rank level)
goes_on_by l.And level = nat_eq 1 (rank level)
goes_on_by l.Sum level = nat_eq 3 (rank level)
goes_on_by l.Product level = nat_eq 4 (rank level)
goes_on_by l.Unary level = nat_eq 5 (rank level)

abbrev pub goes_on_at : BinaryOp → Level → Bool
goes_on_at op level = goes_on_by (level_of op) level

abbrev pub sign_of : BinaryOp → Terminal
sign_of ops.Or = t.Or
sign_of ops.And = t.And
sign_of ops.Eq = t.Equal
sign_of ops.Ne = t.NotEqual
sign_of ops.Lt = t.Below
sign_of ops.Le = t.AtMost
sign_of ops.Gt = t.Above
sign_of ops.Ge = t.AtLeast
sign_of ops.Add = t.Plus
sign_of ops.Sub = t.Minus
sign_of ops.Mul = t.Star
sign_of ops.Div = t.Slash

abbrev pub unary_sign : UnaryOp → Terminal
unary_sign unaries.Not = t.Bang
unary_sign unaries.Neg = t.Minus

abbrev pub top_level : tree.Expression → Level
top_level (tree.binary op x y at) = level_of op
top_level (tree.number v at) = l.Unary
top_level (tree.typed_number v ty at) = l.Unary
top_level (tree.truth b at) = l.Unary
top_level (tree.pi at) = l.Unary
top_level (tree.place p at) = l.Unary
top_level (tree.called f ss es at) = l.Unary
top_level (tree.tuple es at) = l.Unary
top_level (tree.unary op e at) = l.Unary

-- in parentheses, where they are wanted
abbrev pub in_parens_if : Bool → List Token → List Token
in_parens_if true ts = Fixed t.LeftParen nowhere ∷ (ts ++ (Fixed t.RightParen nowhere ∷ []))
in_parens_if false ts = ts

-- whether an expression on one level is looser than another level
abbrev pub is_looser : Level → Level → Bool
is_looser own level = nat_lt (rank own) (rank level)

-- an expression as an operand of this level
abbrev pub operand_text : Level → Bool → tree.Expression → List Token
operand_text level tight e = in_parens_if (is_looser (top_level e) level) (expr_text (written tight e))
