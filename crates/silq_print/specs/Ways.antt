-- How an expression is written. Parentheses stand where the levels of its signs want them; `tight` also puts some round the left
-- operand of a sign where that lowers the nest: a chain of one level is as deep at its end as it has signs, and parentheses end it.
use Rattle.std.specs.Prelude.{ℕ, Bool, true, false, ◌&&◌, nat_le, cond, List, [], ◌∷◌}
use Rattle.silq_tree.specs.declared.node.NameId.{NameId}
use Rattle.silq_tree.specs.declared.node.UnaryOp.{UnaryOp}
use Rattle.silq_tree.specs.declared.node.UnaryOp.TheVariants as unaries
use Rattle.silq_tree.specs.declared.node.BinaryOp.{BinaryOp}
use Rattle.silq_tree.specs.declared.node.BinaryOp.TheVariants as ops
use Rattle.silq_tree.specs.Syntax as tree
use Rattle.silq_grammar.specs.Grammar.{equal, not_equal, below, at_most, above, at_least, Expr, one_and, or, And, one_cmp, and, Cmp, one_sum, compare, Sum, one_prod, plus, minus, Prod, one_unary, times, over, Unary, bang, negative, number, typed_number, true_, false_, pi, place, called, paren, Scalar, bit, uint, int, Place, whole, part, part_of_part, Call, plain, with_statics, Args, no_args, args, Exprs, last, and_more}
use Rattle.silq_grammar.specs.Nest.{expr_nests}
use Rattle.silq_print.specs.Bare.{nowhere}

-- an expression on the level of its sign, the loosest outside its parentheses
pub data Written : Type 0 where
  at_or : Expr → Written
  at_and : And → Written
  at_cmp : Cmp → Written
  at_sum : Sum → Written
  at_prod : Prod → Written
  at_unary : Unary → Written

abbrev pub to_expr : Written → Expr
to_expr (at_or d) = d
to_expr (at_and d) = one_and d
to_expr (at_cmp d) = one_and (one_cmp d)
to_expr (at_sum d) = one_and (one_cmp (one_sum d))
to_expr (at_prod d) = one_and (one_cmp (one_sum (one_prod d)))
to_expr (at_unary d) = one_and (one_cmp (one_sum (one_prod (one_unary d))))

abbrev pub in_parens : Written → Unary
in_parens w = paren nowhere (last (to_expr w)) nowhere

-- as an operand on a level: in parentheses where it is looser

abbrev pub to_unary : Written → Unary
to_unary (at_unary d) = d
to_unary w = in_parens w

abbrev pub to_prod : Written → Prod
to_prod (at_prod d) = d
to_prod w = one_unary (to_unary w)

abbrev pub to_sum : Written → Sum
to_sum (at_sum d) = d
to_sum w = one_prod (to_prod w)

abbrev pub to_cmp : Written → Cmp
to_cmp (at_cmp d) = d
to_cmp w = one_sum (to_sum w)

abbrev pub to_and : Written → And
to_and (at_and d) = d
to_and w = one_cmp (to_cmp w)

-- a sign between two expressions
abbrev pub join : BinaryOp → Written → Written → Written
join ops.Or l r = at_or (or (to_expr l) nowhere (to_and r))
join ops.And l r = at_and (and (to_and l) nowhere (to_cmp r))
join ops.Eq l r = at_cmp (compare equal (to_sum l) nowhere (to_sum r))
join ops.Ne l r = at_cmp (compare not_equal (to_sum l) nowhere (to_sum r))
join ops.Lt l r = at_cmp (compare below (to_sum l) nowhere (to_sum r))
join ops.Le l r = at_cmp (compare at_most (to_sum l) nowhere (to_sum r))
join ops.Gt l r = at_cmp (compare above (to_sum l) nowhere (to_sum r))
join ops.Ge l r = at_cmp (compare at_least (to_sum l) nowhere (to_sum r))
join ops.Add l r = at_sum (plus (to_sum l) nowhere (to_prod r))
join ops.Sub l r = at_sum (minus (to_sum l) nowhere (to_prod r))
join ops.Mul l r = at_prod (times (to_prod l) nowhere (to_unary r))
join ops.Div l r = at_prod (over (to_prod l) nowhere (to_unary r))

abbrev pub signed : UnaryOp → Unary → Unary
signed unaries.Not d = bang nowhere d
signed unaries.Neg d = negative nowhere d

-- the greatest of numbers
abbrev pub greater : ℕ → ℕ → ℕ
greater a b = cond (nat_le a b) b a

abbrev pub greatest : List ℕ → ℕ
greatest [] = 0
greatest (n ∷ ns) = greater n (greatest ns)

-- how much nest it adds
abbrev pub depth : Written → ℕ
depth w = greatest (expr_nests 0 (to_expr w))

-- several ways to write one expression
pub data Ways : Type 0 where
  only : Written → Ways
  also : Written → Ways → Ways

abbrev pub each_way : (Written → Written) → Ways → Ways
each_way f (only w) = only (f w)
each_way f (also w ws) = also (f w) (each_way f ws)

-- the one with the least nest
abbrev pub less_deep : Written → Written → Written
less_deep v w = cond (nat_le (depth v) (depth w)) v w

abbrev pub least : Ways → Written
least (only w) = w
least (also w ws) = less_deep w (least ws)

-- whether the sign goes on with the chain
abbrev pub goes_on : BinaryOp → Written → Bool
goes_on ops.Or (at_or d) = true
goes_on ops.And (at_and d) = true
goes_on ops.Add (at_sum d) = true
goes_on ops.Sub (at_sum d) = true
goes_on ops.Mul (at_prod d) = true
goes_on ops.Div (at_prod d) = true
goes_on _ _ = false

-- the ways to write a left operand: where it is a chain that goes on, the shorter its chain the better for what follows
abbrev pub lefts : Bool → BinaryOp → Ways → Ways
lefts tight op ws = cond (tight && goes_on op (least ws)) (also (at_unary (in_parens (least ws))) ws) (only (least ws))

abbrev pub anything : Expr
anything = to_expr (at_unary (true_ nowhere))

abbrev pub exprs_of : List Expr → Exprs
exprs_of [] = last anything
exprs_of (d ∷ []) = last d
exprs_of (d ∷ e ∷ es) = and_more d nowhere (exprs_of (e ∷ es))

abbrev pub args_of : List Expr → Args
args_of [] = no_args
args_of (d ∷ ds) = args (exprs_of (d ∷ ds))

abbrev pub call_of : NameId → List Expr → List Expr → Call
call_of f [] es = plain f nowhere nowhere (args_of es) nowhere
call_of f (s ∷ ss) es = with_statics f nowhere nowhere (exprs_of (s ∷ ss)) nowhere nowhere (args_of es) nowhere

-- the ways to write an expression: one, or where tight the least deep of each number of signs in its chain
abbrev mutual
  pub ways : Bool → tree.Expression → Ways
  ways tight (tree.number v at) = only (at_unary (number v nowhere))
  ways tight (tree.typed_number v ty at) = only (at_unary (typed_number v nowhere nowhere (scalar_way tight ty)))
  ways tight (tree.truth true at) = only (at_unary (true_ nowhere))
  ways tight (tree.truth false at) = only (at_unary (false_ nowhere))
  ways tight (tree.pi at) = only (at_unary (pi nowhere))
  ways tight (tree.place p at) = only (at_unary (place (place_way tight p)))
  ways tight (tree.called f statics es at) = only (at_unary (called (call_of f (exprs_way tight statics) (exprs_way tight es))))
  ways tight (tree.tuple es at) = only (at_unary (paren nowhere (exprs_of (exprs_way tight es)) nowhere))
  ways tight (tree.unary op e at) = only (at_unary (signed op (to_unary (least (ways tight e)))))
  ways tight (tree.binary op l r at) = each_way (λ w. join op w (least (ways tight r))) (lefts tight op (ways tight l))

  pub scalar_way : Bool → tree.ScalarType → Scalar
  scalar_way tight tree.bit = bit nowhere
  scalar_way tight (tree.uint e) = uint nowhere nowhere (to_expr (least (ways tight e))) nowhere
  scalar_way tight (tree.int e) = int nowhere nowhere (to_expr (least (ways tight e))) nowhere

  pub place_way : Bool → tree.Place → Place
  place_way tight (tree.whole n) = whole n nowhere
  place_way tight (tree.part n e) = part n nowhere nowhere (to_expr (least (ways tight e))) nowhere
  place_way tight (tree.part_of_part n e f) =
      part_of_part n nowhere nowhere (to_expr (least (ways tight e))) nowhere nowhere (to_expr (least (ways tight f))) nowhere

  pub exprs_way : Bool → tree.Expressions → List Expr
  exprs_way tight tree.none = []
  exprs_way tight (tree.more e es) = to_expr (least (ways tight e)) ∷ exprs_way tight es

-- as it is written
abbrev pub written : Bool → tree.Expression → Expr
written tight e = to_expr (least (ways tight e))
