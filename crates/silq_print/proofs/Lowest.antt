-- Written tight, an expression is no deeper than any derivation that stands for it.
use Rattle.std.proofs.Common.{◌≡◌, ℕ, ◌+◌, ◌-◌, ◌≤◌, true, false, cond, List, [], ◌∷◌, refl, sym, ap, subst, arith}
use Rattle.silq_tree.specs.declared.node.NameId.{NameId}
use Rattle.silq_tree.specs.declared.node.BinaryOp.{BinaryOp}
use Rattle.silq_tree.specs.declared.node.BinaryOp.TheVariants as ops
use Rattle.silq_grammar.specs.Grammar.{Comparison, equal, not_equal, below, at_most, above, at_least, Expr, one_and, or, And, one_cmp, and, Cmp, one_sum, compare, Sum, one_prod, plus, minus, Prod, one_unary, times, over, Unary, bang, negative, number, typed_number, true_, false_, pi, place, called, paren, Scalar, bit, uint, int, Place, whole, part, part_of_part, Call, plain, with_statics, Args, no_args, args, Exprs, last, and_more}
use Rattle.silq_grammar.specs.Nest.{prod_count, sum_count, and_count, or_count}
use Rattle.silq_grammar.specs.Trees.{comparison_op, expr_tree, and_tree, cmp_tree, sum_tree, prod_tree, unary_tree, scalar_tree, place_tree, call_tree, args_tree, exprs_tree}
use Rattle.silq_print.specs.Ways.{greater, Written, at_or, at_and, at_cmp, at_sum, at_prod, at_unary, to_expr, in_parens, to_unary, to_prod, to_sum, to_cmp, to_and, join, Ways, only, also, each_way, least, goes_on, lefts, exprs_of, args_of, call_of, ways, scalar_way, place_way, exprs_way, written}
use Rattle.silq_print.proofs.Tops.{left_below, right_below, both_below, expr_top, and_top, cmp_top, sum_top, prod_top, unary_top, scalar_top, place_top, call_top, args_top, exprs_top}
use Rattle.silq_print.proofs.Chains.{top_of, Level, Has, chain_of_operand, operand_of_chain, chain_step}

same : (n : ℕ) → n ≤ n
same n = omega arith

one_more : (n : ℕ) → n ≤ 1 + n
one_more n = omega arith

-- an operand is as deep as what it is, or in parentheses

covers_unary : (w : Written) → top_of w ≤ unary_top (to_unary w)
covers_unary (at_unary d) = same _
covers_unary (at_or d) = one_more _
covers_unary (at_and d) = one_more _
covers_unary (at_cmp d) = one_more _
covers_unary (at_sum d) = one_more _
covers_unary (at_prod d) = one_more _

covers_prod : (w : Written) → top_of w ≤ prod_top (to_prod w)
covers_prod (at_unary d) = same _
covers_prod (at_or d) = one_more _
covers_prod (at_and d) = one_more _
covers_prod (at_cmp d) = one_more _
covers_prod (at_sum d) = one_more _
covers_prod (at_prod d) = same _

covers_sum : (w : Written) → top_of w ≤ sum_top (to_sum w)
covers_sum (at_unary d) = same _
covers_sum (at_or d) = one_more _
covers_sum (at_and d) = one_more _
covers_sum (at_cmp d) = one_more _
covers_sum (at_sum d) = same _
covers_sum (at_prod d) = same _

covers_and : (w : Written) → top_of w ≤ and_top (to_and w)
covers_and (at_unary d) = same _
covers_and (at_or d) = one_more _
covers_and (at_and d) = same _
covers_and (at_cmp d) = same _
covers_and (at_sum d) = same _
covers_and (at_prod d) = same _

cmp_below : (w : Written) → cmp_top (to_cmp w) ≤ sum_top (to_sum w)
cmp_below (at_unary d) = same _
cmp_below (at_or d) = same _
cmp_below (at_and d) = same _
cmp_below (at_cmp d) = one_more _
cmp_below (at_sum d) = same _
cmp_below (at_prod d) = same _

unary_below : (w : Written) → unary_top (to_unary w) ≤ 1 + top_of w
unary_below (at_unary d) = one_more _
unary_below (at_or d) = same _
unary_below (at_and d) = same _
unary_below (at_cmp d) = same _
unary_below (at_sum d) = same _
unary_below (at_prod d) = same _

-- the levels that chain

or_on : (w : Written) → goes_on ops.Or w ≡ true → expr_top (to_expr w) ≡ top_of w
or_on (at_or d) h = refl
or_on (at_and d) h = cc
or_on (at_cmp d) h = cc
or_on (at_sum d) h = cc
or_on (at_prod d) h = cc
or_on (at_unary d) h = cc

or_parens : (w : Written) → goes_on ops.Or w ≡ true → expr_top (to_expr (at_unary (in_parens w))) ≡ and_top (to_and w)
or_parens (at_or d) h = refl
or_parens (at_and d) h = cc
or_parens (at_cmp d) h = cc
or_parens (at_sum d) h = cc
or_parens (at_prod d) h = cc
or_parens (at_unary d) h = cc

or_off : (w : Written) → goes_on ops.Or w ≡ false → expr_top (to_expr w) ≡ and_top (to_and w)
or_off (at_or d) h = cc
or_off (at_and d) h = refl
or_off (at_cmp d) h = refl
or_off (at_sum d) h = refl
or_off (at_prod d) h = refl
or_off (at_unary d) h = refl

or_alone : (w : Written) → goes_on ops.Or w ≡ false → or_count (to_expr w) ≡ 0
or_alone (at_or d) h = cc
or_alone (at_and d) h = refl
or_alone (at_cmp d) h = refl
or_alone (at_sum d) h = refl
or_alone (at_prod d) h = refl
or_alone (at_unary d) h = refl

abbrev or_level : Level ops.Or Expr And
or_level = record {
  as_chain = to_expr;
  as_operand = to_and;
  count = or_count;
  top = expr_top;
  under = and_top;
  covers = λ w. same (top_of w);
  on_level = or_on;
  parens = or_parens;
  parens_count = λ w. refl;
  off_level = or_off;
  off_count = or_alone;
  join_goes_on = λ v w. refl;
  join_count = λ v w. refl;
  join_top = λ v w. refl;
}

and_on : (w : Written) → goes_on ops.And w ≡ true → and_top (to_and w) ≡ top_of w
and_on (at_or d) h = cc
and_on (at_and d) h = refl
and_on (at_cmp d) h = cc
and_on (at_sum d) h = cc
and_on (at_prod d) h = cc
and_on (at_unary d) h = cc

and_parens : (w : Written) → goes_on ops.And w ≡ true → and_top (to_and (at_unary (in_parens w))) ≡ cmp_top (to_cmp w)
and_parens (at_or d) h = cc
and_parens (at_and d) h = refl
and_parens (at_cmp d) h = cc
and_parens (at_sum d) h = cc
and_parens (at_prod d) h = cc
and_parens (at_unary d) h = cc

and_off : (w : Written) → goes_on ops.And w ≡ false → and_top (to_and w) ≡ cmp_top (to_cmp w)
and_off (at_or d) h = refl
and_off (at_and d) h = cc
and_off (at_cmp d) h = refl
and_off (at_sum d) h = refl
and_off (at_prod d) h = refl
and_off (at_unary d) h = refl

and_alone : (w : Written) → goes_on ops.And w ≡ false → and_count (to_and w) ≡ 0
and_alone (at_or d) h = refl
and_alone (at_and d) h = cc
and_alone (at_cmp d) h = refl
and_alone (at_sum d) h = refl
and_alone (at_prod d) h = refl
and_alone (at_unary d) h = refl

abbrev and_level : Level ops.And And Cmp
and_level = record {
  as_chain = to_and;
  as_operand = to_cmp;
  count = and_count;
  top = and_top;
  under = cmp_top;
  covers = covers_and;
  on_level = and_on;
  parens = and_parens;
  parens_count = λ w. refl;
  off_level = and_off;
  off_count = and_alone;
  join_goes_on = λ v w. refl;
  join_count = λ v w. refl;
  join_top = λ v w. refl;
}

add_on : (w : Written) → goes_on ops.Add w ≡ true → sum_top (to_sum w) ≡ top_of w
add_on (at_or d) h = cc
add_on (at_and d) h = cc
add_on (at_cmp d) h = cc
add_on (at_sum d) h = refl
add_on (at_prod d) h = cc
add_on (at_unary d) h = cc

add_parens : (w : Written) → goes_on ops.Add w ≡ true → sum_top (to_sum (at_unary (in_parens w))) ≡ prod_top (to_prod w)
add_parens (at_or d) h = cc
add_parens (at_and d) h = cc
add_parens (at_cmp d) h = cc
add_parens (at_sum d) h = refl
add_parens (at_prod d) h = cc
add_parens (at_unary d) h = cc

add_off : (w : Written) → goes_on ops.Add w ≡ false → sum_top (to_sum w) ≡ prod_top (to_prod w)
add_off (at_or d) h = refl
add_off (at_and d) h = refl
add_off (at_cmp d) h = refl
add_off (at_sum d) h = cc
add_off (at_prod d) h = refl
add_off (at_unary d) h = refl

add_alone : (w : Written) → goes_on ops.Add w ≡ false → sum_count (to_sum w) ≡ 0
add_alone (at_or d) h = refl
add_alone (at_and d) h = refl
add_alone (at_cmp d) h = refl
add_alone (at_sum d) h = cc
add_alone (at_prod d) h = refl
add_alone (at_unary d) h = refl

abbrev add_level : Level ops.Add Sum Prod
add_level = record {
  as_chain = to_sum;
  as_operand = to_prod;
  count = sum_count;
  top = sum_top;
  under = prod_top;
  covers = covers_sum;
  on_level = add_on;
  parens = add_parens;
  parens_count = λ w. refl;
  off_level = add_off;
  off_count = add_alone;
  join_goes_on = λ v w. refl;
  join_count = λ v w. refl;
  join_top = λ v w. refl;
}

sub_on : (w : Written) → goes_on ops.Sub w ≡ true → sum_top (to_sum w) ≡ top_of w
sub_on (at_or d) h = cc
sub_on (at_and d) h = cc
sub_on (at_cmp d) h = cc
sub_on (at_sum d) h = refl
sub_on (at_prod d) h = cc
sub_on (at_unary d) h = cc

sub_parens : (w : Written) → goes_on ops.Sub w ≡ true → sum_top (to_sum (at_unary (in_parens w))) ≡ prod_top (to_prod w)
sub_parens (at_or d) h = cc
sub_parens (at_and d) h = cc
sub_parens (at_cmp d) h = cc
sub_parens (at_sum d) h = refl
sub_parens (at_prod d) h = cc
sub_parens (at_unary d) h = cc

sub_off : (w : Written) → goes_on ops.Sub w ≡ false → sum_top (to_sum w) ≡ prod_top (to_prod w)
sub_off (at_or d) h = refl
sub_off (at_and d) h = refl
sub_off (at_cmp d) h = refl
sub_off (at_sum d) h = cc
sub_off (at_prod d) h = refl
sub_off (at_unary d) h = refl

sub_alone : (w : Written) → goes_on ops.Sub w ≡ false → sum_count (to_sum w) ≡ 0
sub_alone (at_or d) h = refl
sub_alone (at_and d) h = refl
sub_alone (at_cmp d) h = refl
sub_alone (at_sum d) h = cc
sub_alone (at_prod d) h = refl
sub_alone (at_unary d) h = refl

abbrev sub_level : Level ops.Sub Sum Prod
sub_level = record {
  as_chain = to_sum;
  as_operand = to_prod;
  count = sum_count;
  top = sum_top;
  under = prod_top;
  covers = covers_sum;
  on_level = sub_on;
  parens = sub_parens;
  parens_count = λ w. refl;
  off_level = sub_off;
  off_count = sub_alone;
  join_goes_on = λ v w. refl;
  join_count = λ v w. refl;
  join_top = λ v w. refl;
}

mul_on : (w : Written) → goes_on ops.Mul w ≡ true → prod_top (to_prod w) ≡ top_of w
mul_on (at_or d) h = cc
mul_on (at_and d) h = cc
mul_on (at_cmp d) h = cc
mul_on (at_sum d) h = cc
mul_on (at_prod d) h = refl
mul_on (at_unary d) h = cc

mul_parens : (w : Written) → goes_on ops.Mul w ≡ true → prod_top (to_prod (at_unary (in_parens w))) ≡ unary_top (to_unary w)
mul_parens (at_or d) h = cc
mul_parens (at_and d) h = cc
mul_parens (at_cmp d) h = cc
mul_parens (at_sum d) h = cc
mul_parens (at_prod d) h = refl
mul_parens (at_unary d) h = cc

mul_off : (w : Written) → goes_on ops.Mul w ≡ false → prod_top (to_prod w) ≡ unary_top (to_unary w)
mul_off (at_or d) h = refl
mul_off (at_and d) h = refl
mul_off (at_cmp d) h = refl
mul_off (at_sum d) h = refl
mul_off (at_prod d) h = cc
mul_off (at_unary d) h = refl

mul_alone : (w : Written) → goes_on ops.Mul w ≡ false → prod_count (to_prod w) ≡ 0
mul_alone (at_or d) h = refl
mul_alone (at_and d) h = refl
mul_alone (at_cmp d) h = refl
mul_alone (at_sum d) h = refl
mul_alone (at_prod d) h = cc
mul_alone (at_unary d) h = refl

abbrev mul_level : Level ops.Mul Prod Unary
mul_level = record {
  as_chain = to_prod;
  as_operand = to_unary;
  count = prod_count;
  top = prod_top;
  under = unary_top;
  covers = covers_prod;
  on_level = mul_on;
  parens = mul_parens;
  parens_count = λ w. refl;
  off_level = mul_off;
  off_count = mul_alone;
  join_goes_on = λ v w. refl;
  join_count = λ v w. refl;
  join_top = λ v w. refl;
}

div_on : (w : Written) → goes_on ops.Div w ≡ true → prod_top (to_prod w) ≡ top_of w
div_on (at_or d) h = cc
div_on (at_and d) h = cc
div_on (at_cmp d) h = cc
div_on (at_sum d) h = cc
div_on (at_prod d) h = refl
div_on (at_unary d) h = cc

div_parens : (w : Written) → goes_on ops.Div w ≡ true → prod_top (to_prod (at_unary (in_parens w))) ≡ unary_top (to_unary w)
div_parens (at_or d) h = cc
div_parens (at_and d) h = cc
div_parens (at_cmp d) h = cc
div_parens (at_sum d) h = cc
div_parens (at_prod d) h = refl
div_parens (at_unary d) h = cc

div_off : (w : Written) → goes_on ops.Div w ≡ false → prod_top (to_prod w) ≡ unary_top (to_unary w)
div_off (at_or d) h = refl
div_off (at_and d) h = refl
div_off (at_cmp d) h = refl
div_off (at_sum d) h = refl
div_off (at_prod d) h = cc
div_off (at_unary d) h = refl

div_alone : (w : Written) → goes_on ops.Div w ≡ false → prod_count (to_prod w) ≡ 0
div_alone (at_or d) h = refl
div_alone (at_and d) h = refl
div_alone (at_cmp d) h = refl
div_alone (at_sum d) h = refl
div_alone (at_prod d) h = cc
div_alone (at_unary d) h = refl

abbrev div_level : Level ops.Div Prod Unary
div_level = record {
  as_chain = to_prod;
  as_operand = to_unary;
  count = prod_count;
  top = prod_top;
  under = unary_top;
  covers = covers_prod;
  on_level = div_on;
  parens = div_parens;
  parens_count = λ w. refl;
  off_level = div_off;
  off_count = div_alone;
  join_goes_on = λ v w. refl;
  join_count = λ v w. refl;
  join_top = λ v w. refl;
}

-- a sum and a difference are one chain, and so are a product and a quotient

lefts_by : (o p : BinaryOp) (ws : Ways) → goes_on o (least ws) ≡ goes_on p (least ws) → lefts true o ws ≡ lefts true p ws
lefts_by o p ws e = ap (λ b. cond b (also (at_unary (in_parens (least ws))) ws) (only (least ws))) e

add_or_sub : (w : Written) → goes_on ops.Add w ≡ goes_on ops.Sub w
add_or_sub (at_unary d) = refl
add_or_sub (at_or d) = refl
add_or_sub (at_and d) = refl
add_or_sub (at_cmp d) = refl
add_or_sub (at_sum d) = refl
add_or_sub (at_prod d) = refl

mul_or_div : (w : Written) → goes_on ops.Mul w ≡ goes_on ops.Div w
mul_or_div (at_unary d) = refl
mul_or_div (at_or d) = refl
mul_or_div (at_and d) = refl
mul_or_div (at_cmp d) = refl
mul_or_div (at_sum d) = refl
mul_or_div (at_prod d) = refl

to_sub : (c t : ℕ) (ws : Ways) → Has add_level c t (lefts true ops.Add ws) → Has sub_level c t (lefts true ops.Sub ws)
to_sub c t ws h = subst (Has add_level c t) (lefts_by ops.Add ops.Sub ws (add_or_sub (least ws))) h

of_sub : (c t : ℕ) (ws : Ways) → Has sub_level c t (lefts true ops.Sub ws) → Has add_level c t (lefts true ops.Add ws)
of_sub c t ws h = subst (Has add_level c t) (sym (lefts_by ops.Add ops.Sub ws (add_or_sub (least ws)))) h

to_div : (c t : ℕ) (ws : Ways) → Has mul_level c t (lefts true ops.Mul ws) → Has div_level c t (lefts true ops.Div ws)
to_div c t ws h = subst (Has mul_level c t) (lefts_by ops.Mul ops.Div ws (mul_or_div (least ws))) h

of_div : (c t : ℕ) (ws : Ways) → Has div_level c t (lefts true ops.Div ws) → Has mul_level c t (lefts true ops.Mul ws)
of_div c t ws h = subst (Has mul_level c t) (sym (lefts_by ops.Mul ops.Div ws (mul_or_div (least ws)))) h

-- arithmetic

pub both_grow : (a b x y : ℕ) → a ≤ x → b ≤ y → greater a b ≤ greater x y
both_grow a b x y h g =
    let m = greater x y in
    let e : x ≤ m = left_below x y m (omega arith) in
    let f : y ≤ m = right_below x y m (omega arith) in
    both_below a b m (omega arith) (omega arith)

one_greater : (x y : ℕ) → 1 + greater x y ≤ greater (1 + x) (1 + y)
one_greater x y =
    let m = greater (1 + x) (1 + y) in
    let e : 1 + x ≤ m = left_below (1 + x) (1 + y) m (omega arith) in
    let f : 1 + y ≤ m = right_below (1 + x) (1 + y) m (omega arith) in
    let h : greater x y ≤ m - 1 = both_below x y (m - 1) (omega arith) (omega arith) in
    omega arith

-- lists of expressions

abbrev pub AllBelow : ℕ → List Expr → Type 0
AllBelow k [] = Unit {0}
AllBelow k (d ∷ ds) = (expr_top d ≤ k) × AllBelow k ds

pub exprs_below : (k : ℕ) (d : Expr) (ds : List Expr) → AllBelow k (d ∷ ds) → exprs_top (exprs_of (d ∷ ds)) ≤ k
exprs_below k d [] h = h.0
exprs_below k d (e ∷ es) h = both_below (expr_top d) (exprs_top (exprs_of (e ∷ es))) k h.0 (exprs_below k e es h.1)

args_below : (k : ℕ) (ds : List Expr) → AllBelow k ds → args_top (args_of ds) ≤ k
args_below k [] h = omega arith
args_below k (d ∷ ds) h = exprs_below k d ds h

pub call_below : (k : ℕ) (f : NameId) (ss ds : List Expr) → AllBelow k ss → AllBelow k ds → call_top (call_of f ss ds) ≤ 1 + k
call_below k f [] ds h g = let e = args_below k ds g in omega arith
call_below k f (s ∷ ss) ds h g =
    let e : 1 + exprs_top (exprs_of (s ∷ ss)) ≤ 1 + k = (let x = exprs_below k s ss h in omega arith) in
    let f : 1 + args_top (args_of ds) ≤ 1 + k = (let y = args_below k ds g in omega arith) in
    both_below (1 + exprs_top (exprs_of (s ∷ ss))) (1 + args_top (args_of ds)) (1 + k) e f

-- a comparison
compared : (c : Comparison) (ws : Ways) (w : Written)
    → cmp_top (to_cmp (least (each_way (λ v. join (comparison_op c) v w) (lefts true (comparison_op c) ws)))) ≡ greater (sum_top (to_sum (least ws))) (1 + sum_top (to_sum w))
compared equal ws w = refl
compared not_equal ws w = refl
compared below ws w = refl
compared at_most ws w = refl
compared above ws w = refl
compared at_least ws w = refl

mutual
  expr_chain : (d : Expr) → Has or_level (or_count d) (expr_top d) (lefts true ops.Or (ways true (expr_tree d)))
  expr_chain (one_and a) = chain_of_operand or_level 0 (and_top a) (ways true (and_tree a)) (operand_of_chain and_level (and_count a) (and_top a) (ways true (and_tree a)) (and_chain a))
  expr_chain (or e s a) =
      chain_step or_level (or_count e) (expr_top e) (and_top a) (lefts true ops.Or (ways true (expr_tree e))) (least (ways true (and_tree a))) (expr_chain e)
      (operand_of_chain and_level (and_count a) (and_top a) (ways true (and_tree a)) (and_chain a))

  and_chain : (d : And) → Has and_level (and_count d) (and_top d) (lefts true ops.And (ways true (and_tree d)))
  and_chain (one_cmp c) = chain_of_operand and_level 0 (cmp_top c) (ways true (cmp_tree c)) (cmp_low c)
  and_chain (and a s c) =
      chain_step and_level (and_count a) (and_top a) (cmp_top c) (lefts true ops.And (ways true (and_tree a))) (least (ways true (cmp_tree c))) (and_chain a) (cmp_low c)

  cmp_low : (d : Cmp) → cmp_top (to_cmp (least (ways true (cmp_tree d)))) ≤ cmp_top d
  cmp_low (one_sum a) =
      let h = operand_of_chain add_level (sum_count a) (sum_top a) (ways true (sum_tree a)) (sum_chain a) in
      let g = cmp_below (least (ways true (sum_tree a))) in
      omega arith
  cmp_low (compare c a s b) =
      let h = operand_of_chain add_level (sum_count a) (sum_top a) (ways true (sum_tree a)) (sum_chain a) in
      let g = operand_of_chain add_level (sum_count b) (sum_top b) (ways true (sum_tree b)) (sum_chain b) in
      let e = compared c (ways true (sum_tree a)) (least (ways true (sum_tree b))) in
      let f = both_grow (sum_top (to_sum (least (ways true (sum_tree a))))) (1 + sum_top (to_sum (least (ways true (sum_tree b))))) (sum_top a) (1 + sum_top b) h (omega arith) in
      omega arith

  sum_chain : (d : Sum) → Has add_level (sum_count d) (sum_top d) (lefts true ops.Add (ways true (sum_tree d)))
  sum_chain (one_prod p) = chain_of_operand add_level 0 (prod_top p) (ways true (prod_tree p)) (operand_of_chain mul_level (prod_count p) (prod_top p) (ways true (prod_tree p)) (prod_chain p))
  sum_chain (plus a s p) =
      chain_step add_level (sum_count a) (sum_top a) (prod_top p) (lefts true ops.Add (ways true (sum_tree a))) (least (ways true (prod_tree p))) (sum_chain a)
      (operand_of_chain mul_level (prod_count p) (prod_top p) (ways true (prod_tree p)) (prod_chain p))
  sum_chain (minus a s p) =
      of_sub (sum_count a + 1) (greater (sum_top a) (sum_count a + 1 + prod_top p)) (ways true (sum_tree (minus a s p)))
      (chain_step sub_level (sum_count a) (sum_top a) (prod_top p) (lefts true ops.Sub (ways true (sum_tree a))) (least (ways true (prod_tree p)))
      (to_sub (sum_count a) (sum_top a) (ways true (sum_tree a)) (sum_chain a))
      (operand_of_chain mul_level (prod_count p) (prod_top p) (ways true (prod_tree p)) (prod_chain p)))

  prod_chain : (d : Prod) → Has mul_level (prod_count d) (prod_top d) (lefts true ops.Mul (ways true (prod_tree d)))
  prod_chain (one_unary u) = chain_of_operand mul_level 0 (unary_top u) (ways true (unary_tree u)) (unary_low u)
  prod_chain (times p s u) =
      chain_step mul_level (prod_count p) (prod_top p) (unary_top u) (lefts true ops.Mul (ways true (prod_tree p))) (least (ways true (unary_tree u))) (prod_chain p) (unary_low u)
  prod_chain (over p s u) =
      of_div (prod_count p + 1) (greater (prod_top p) (prod_count p + 1 + unary_top u)) (ways true (prod_tree (over p s u)))
      (chain_step div_level (prod_count p) (prod_top p) (unary_top u) (lefts true ops.Div (ways true (prod_tree p))) (least (ways true (unary_tree u)))
      (to_div (prod_count p) (prod_top p) (ways true (prod_tree p)) (prod_chain p)) (unary_low u))

  unary_low : (d : Unary) → unary_top (to_unary (least (ways true (unary_tree d)))) ≤ unary_top d
  unary_low (bang s u) = let h = unary_low u in omega arith
  unary_low (negative s u) = let h = unary_low u in omega arith
  unary_low (number v s) = same 0
  unary_low (typed_number v s c ty) = scalar_low ty
  unary_low (true_ s) = same 0
  unary_low (false_ s) = same 0
  unary_low (pi s) = same 0
  unary_low (place p) = place_low p
  unary_low (called c) = call_low c
  unary_low (paren l (last e) r) =
      let h = operand_of_chain or_level (or_count e) (expr_top e) (ways true (expr_tree e)) (expr_chain e) in
      let g = unary_below (least (ways true (expr_tree e))) in
      omega arith
  unary_low (paren l (and_more e s es) r) =
      let h = operand_of_chain or_level (or_count e) (expr_top e) (ways true (expr_tree e)) (expr_chain e) in
      let m = greater (expr_top e) (exprs_top es) in
      let a : expr_top e ≤ m = left_below (expr_top e) (exprs_top es) m (same m) in
      let b : exprs_top es ≤ m = right_below (expr_top e) (exprs_top es) m (same m) in
      let c : expr_top (to_expr (least (ways true (expr_tree e)))) ≤ m = omega arith in
      let g = exprs_below m (to_expr (least (ways true (expr_tree e)))) (exprs_way true (exprs_tree es)) (c, exprs_low es m b) in
      omega arith

  scalar_low : (d : Scalar) → scalar_top (scalar_way true (scalar_tree d)) ≤ scalar_top d
  scalar_low (bit s) = same 0
  scalar_low (uint s l e r) = let h = operand_of_chain or_level (or_count e) (expr_top e) (ways true (expr_tree e)) (expr_chain e) in omega arith
  scalar_low (int s l e r) = let h = operand_of_chain or_level (or_count e) (expr_top e) (ways true (expr_tree e)) (expr_chain e) in omega arith

  place_low : (d : Place) → place_top (place_way true (place_tree d)) ≤ place_top d
  place_low (whole n s) = same 0
  place_low (part n s l e r) = let h = operand_of_chain or_level (or_count e) (expr_top e) (ways true (expr_tree e)) (expr_chain e) in omega arith
  place_low (part_of_part n s l e r m f q) =
      let h = operand_of_chain or_level (or_count e) (expr_top e) (ways true (expr_tree e)) (expr_chain e) in
      let g = operand_of_chain or_level (or_count f) (expr_top f) (ways true (expr_tree f)) (expr_chain f) in
      both_grow (1 + expr_top (to_expr (least (ways true (expr_tree e))))) (1 + expr_top (to_expr (least (ways true (expr_tree f))))) (1 + expr_top e) (1 + expr_top f) (omega arith) (omega arith)

  call_low : (d : Call) → unary_top (to_unary (least (ways true (call_tree d)))) ≤ call_top d
  call_low (plain n s l a r) = call_below (args_top a) n [] (exprs_way true (args_tree a)) tt (args_low a (args_top a) (same (args_top a)))
  call_low (with_statics n s l es r m a q) =
      let k = greater (exprs_top es) (args_top a) in
      let x : exprs_top es ≤ k = left_below (exprs_top es) (args_top a) k (same k) in
      let y : args_top a ≤ k = right_below (exprs_top es) (args_top a) k (same k) in
      let h = call_below k n (exprs_way true (exprs_tree es)) (exprs_way true (args_tree a)) (exprs_low es k x) (args_low a k y) in
      let g = one_greater (exprs_top es) (args_top a) in
      omega arith

  args_low : (d : Args) (k : ℕ) → args_top d ≤ k → AllBelow k (exprs_way true (args_tree d))
  args_low no_args k h = tt
  args_low (args es) k h = exprs_low es k h

  exprs_low : (d : Exprs) (k : ℕ) → exprs_top d ≤ k → AllBelow k (exprs_way true (exprs_tree d))
  exprs_low (last e) k h =
      let g = operand_of_chain or_level (or_count e) (expr_top e) (ways true (expr_tree e)) (expr_chain e) in
      (omega arith, tt)
  exprs_low (and_more e s es) k h =
      let g = operand_of_chain or_level (or_count e) (expr_top e) (ways true (expr_tree e)) (expr_chain e) in
      let a : expr_top e ≤ k = left_below (expr_top e) (exprs_top es) k h in
      let b : exprs_top es ≤ k = right_below (expr_top e) (exprs_top es) k h in
      (omega arith, exprs_low es k b)

-- an expression that is written tight is no deeper than a derivation of it
pub expr_low : (d : Expr) → expr_top (written true (expr_tree d)) ≤ expr_top d
expr_low d = operand_of_chain or_level (or_count d) (expr_top d) (ways true (expr_tree d)) (expr_chain d)
