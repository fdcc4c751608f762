-- Each way to write an expression stands for it, places aside.
use Rattle.std.proofs.Common.{◌≡◌, Bool, true, false, ◌&&◌, nat_le, cond, List, [], ◌∷◌, refl, ◌∙◌, ap}
use Rattle.silq_tree.specs.declared.node.NameId.{NameId}
use Rattle.silq_tree.specs.declared.node.Spot.{Spot}
use Rattle.silq_tree.specs.declared.node.UnaryOp.TheVariants as unaries
use Rattle.silq_tree.specs.declared.node.BinaryOp.{BinaryOp}
use Rattle.silq_tree.specs.declared.node.BinaryOp.TheVariants as ops
use Rattle.silq_tree.specs.Syntax as tree
use Rattle.silq_grammar.specs.Grammar.{Expr, one_and, or, And, one_cmp, and, Cmp, one_sum, compare, Sum, one_prod, plus, minus, Prod, one_unary, times, over, Unary, bang, negative, number, typed_number, true_, false_, pi, place, called, paren, Scalar, bit, uint, int, Place, whole, part, part_of_part, Call, plain, with_statics, Args, no_args, args, Exprs, last, and_more}
use Rattle.silq_grammar.specs.Trees.{comparison_op, expr_tree, and_tree, cmp_tree, sum_tree, prod_tree, unary_tree, scalar_tree, place_tree, call_tree, args_tree, exprs_tree}
use Rattle.silq_print.specs.Bare.{nowhere, bare_expr, bare_scalar, bare_place, bare_exprs}
use Rattle.silq_print.specs.Ways.{Written, at_or, at_and, at_cmp, at_sum, at_prod, at_unary, to_expr, in_parens, to_unary, to_prod, to_sum, to_cmp, to_and, join, depth, Ways, only, also, each_way, least, goes_on, lefts, exprs_of, args_of, call_of, ways, scalar_way, place_way, exprs_way, written}

-- the way stands for the tree, places aside
pub record Stands (e : tree.Expression) (w : Written) : Type 0 where
  pub is : bare_expr (expr_tree (to_expr w)) ≡ e

-- a derivation on any level

is_unary : (w : Written) → unary_tree (to_unary w) ≡ expr_tree (to_expr w)
is_unary (at_or d) = refl
is_unary (at_and d) = refl
is_unary (at_cmp d) = refl
is_unary (at_sum d) = refl
is_unary (at_prod d) = refl
is_unary (at_unary d) = refl

is_prod : (w : Written) → prod_tree (to_prod w) ≡ expr_tree (to_expr w)
is_prod (at_or d) = refl
is_prod (at_and d) = refl
is_prod (at_cmp d) = refl
is_prod (at_sum d) = refl
is_prod (at_prod d) = refl
is_prod (at_unary d) = refl

is_sum : (w : Written) → sum_tree (to_sum w) ≡ expr_tree (to_expr w)
is_sum (at_or d) = refl
is_sum (at_and d) = refl
is_sum (at_cmp d) = refl
is_sum (at_sum d) = refl
is_sum (at_prod d) = refl
is_sum (at_unary d) = refl

is_cmp : (w : Written) → cmp_tree (to_cmp w) ≡ expr_tree (to_expr w)
is_cmp (at_or d) = refl
is_cmp (at_and d) = refl
is_cmp (at_cmp d) = refl
is_cmp (at_sum d) = refl
is_cmp (at_prod d) = refl
is_cmp (at_unary d) = refl

is_and : (w : Written) → and_tree (to_and w) ≡ expr_tree (to_expr w)
is_and (at_or d) = refl
is_and (at_and d) = refl
is_and (at_cmp d) = refl
is_and (at_sum d) = refl
is_and (at_prod d) = refl
is_and (at_unary d) = refl

as_unary : (w : Written) {e : tree.Expression} → Stands e w → bare_expr (unary_tree (to_unary w)) ≡ e
as_unary w s = ap bare_expr (is_unary w) ∙ s.is

as_prod : (w : Written) {e : tree.Expression} → Stands e w → bare_expr (prod_tree (to_prod w)) ≡ e
as_prod w s = ap bare_expr (is_prod w) ∙ s.is

as_sum : (w : Written) {e : tree.Expression} → Stands e w → bare_expr (sum_tree (to_sum w)) ≡ e
as_sum w s = ap bare_expr (is_sum w) ∙ s.is

as_cmp : (w : Written) {e : tree.Expression} → Stands e w → bare_expr (cmp_tree (to_cmp w)) ≡ e
as_cmp w s = ap bare_expr (is_cmp w) ∙ s.is

as_and : (w : Written) {e : tree.Expression} → Stands e w → bare_expr (and_tree (to_and w)) ≡ e
as_and w s = ap bare_expr (is_and w) ∙ s.is

joined : (op : BinaryOp) (v w : Written) {l r : tree.Expression} → Stands l v → Stands r w → Stands (tree.binary op l r nowhere) (join op v w)
joined ops.Or v w a b = record { is = λ i. tree.binary ops.Or (a.is i) (as_and w b i) nowhere }
joined ops.And v w a b = record { is = λ i. tree.binary ops.And (as_and v a i) (as_cmp w b i) nowhere }
joined ops.Eq v w a b = record { is = λ i. tree.binary ops.Eq (as_sum v a i) (as_sum w b i) nowhere }
joined ops.Ne v w a b = record { is = λ i. tree.binary ops.Ne (as_sum v a i) (as_sum w b i) nowhere }
joined ops.Lt v w a b = record { is = λ i. tree.binary ops.Lt (as_sum v a i) (as_sum w b i) nowhere }
joined ops.Le v w a b = record { is = λ i. tree.binary ops.Le (as_sum v a i) (as_sum w b i) nowhere }
joined ops.Gt v w a b = record { is = λ i. tree.binary ops.Gt (as_sum v a i) (as_sum w b i) nowhere }
joined ops.Ge v w a b = record { is = λ i. tree.binary ops.Ge (as_sum v a i) (as_sum w b i) nowhere }
joined ops.Add v w a b = record { is = λ i. tree.binary ops.Add (as_sum v a i) (as_prod w b i) nowhere }
joined ops.Sub v w a b = record { is = λ i. tree.binary ops.Sub (as_sum v a i) (as_prod w b i) nowhere }
joined ops.Mul v w a b = record { is = λ i. tree.binary ops.Mul (as_prod v a i) (as_unary w b i) nowhere }
joined ops.Div v w a b = record { is = λ i. tree.binary ops.Div (as_prod v a i) (as_unary w b i) nowhere }

-- several ways

abbrev pub AllStand : tree.Expression → Ways → Type 0
AllStand e (only w) = Stands e w
AllStand e (also w ws) = Stands e w × AllStand e ws

pub least_stands : (e : tree.Expression) (ws : Ways) → AllStand e ws → Stands e (least ws)
least_stands e (only w) s = s
least_stands e (also w ws) s = at_test (nat_le (depth w) (depth (least ws))) (least_stands e ws s.1)
  where
    at_test : (b : Bool) → Stands e (least ws) → Stands e (cond b w (least ws))
    at_test true r = s.0
    at_test false r = r

parens_stand : {e : tree.Expression} (w : Written) → Stands e w → Stands e (at_unary (in_parens w))
parens_stand w s = record { is = s.is }

lefts_stand : (e : tree.Expression) (k : Bool) (op : BinaryOp) (ws : Ways) → AllStand e ws → AllStand e (lefts k op ws)
lefts_stand e k op ws s = at_test (k && goes_on op (least ws)) (least_stands e ws s)
  where
    at_test : (b : Bool) → Stands e (least ws) → AllStand e (cond b (also (at_unary (in_parens (least ws))) ws) (only (least ws)))
    at_test true r = (parens_stand (least ws) r, s)
    at_test false r = r

each_joined : (op : BinaryOp) (l r : tree.Expression) (ws : Ways) (w : Written) → AllStand l ws → Stands r w
    → AllStand (tree.binary op l r nowhere) (each_way (λ v. join op v w) ws)
each_joined op l r (only v) w s t = joined op v w s t
each_joined op l r (also v ws) w s t = (joined op v w s.0 t, each_joined op l r ws w s.1 t)

binary_stand : (k : Bool) (op : BinaryOp) (l r : tree.Expression) (at : Spot) → AllStand (bare_expr l) (ways k l) → AllStand (bare_expr r) (ways k r)
    → AllStand (bare_expr (tree.binary op l r at)) (ways k (tree.binary op l r at))
binary_stand k op l r at s t =
    each_joined op (bare_expr l) (bare_expr r) (lefts k op (ways k l)) (least (ways k r)) (lefts_stand (bare_expr l) k op (ways k l) s) (least_stands (bare_expr r) (ways k r) t)

best_stands : (k : Bool) (e : tree.Expression) → AllStand (bare_expr e) (ways k e) → bare_expr (expr_tree (to_expr (least (ways k e)))) ≡ bare_expr e
best_stands k e s = (least_stands (bare_expr e) (ways k e) s).is

-- lists of expressions

abbrev pub listed : List Expr → tree.Expressions
listed [] = tree.none
listed (d ∷ ds) = tree.more (bare_expr (expr_tree d)) (listed ds)

pub exprs_listed : (d : Expr) (ds : List Expr) → bare_exprs (exprs_tree (exprs_of (d ∷ ds))) ≡ listed (d ∷ ds)
exprs_listed d [] = refl
exprs_listed d (e ∷ es) = ap (λ w. tree.more (bare_expr (expr_tree d)) w) (exprs_listed e es)

pub args_listed : (ds : List Expr) → bare_exprs (args_tree (args_of ds)) ≡ listed ds
args_listed [] = refl
args_listed (d ∷ ds) = exprs_listed d ds

pub call_listed : (f : NameId) (ss ds : List Expr) → bare_expr (call_tree (call_of f ss ds)) ≡ tree.called f (listed ss) (listed ds) nowhere
call_listed f [] ds = ap (λ w. tree.called f tree.none w nowhere) (args_listed ds)
call_listed f (s ∷ ss) ds = λ i. tree.called f (exprs_listed s ss i) (args_listed ds i) nowhere

abbrev AreSome : List Expr → Type 0
AreSome [] = ⊥
AreSome (d ∷ ds) = Unit {0}

exprs_long : (k : Bool) (es : Exprs) → AreSome (exprs_way k (exprs_tree es))
exprs_long k (last e) = tt
exprs_long k (and_more e s es) = tt

several_listed : (d : Expr) (ds : List Expr) → AreSome ds → bare_expr (unary_tree (paren nowhere (exprs_of (d ∷ ds)) nowhere)) ≡ tree.tuple (listed (d ∷ ds)) nowhere
several_listed d [] h = absurd h
several_listed d (e ∷ es) h = λ i. tree.tuple (tree.more (bare_expr (expr_tree d)) (exprs_listed e es i)) nowhere

mutual
  pub expr_stand : (k : Bool) (d : Expr) → AllStand (bare_expr (expr_tree d)) (ways k (expr_tree d))
  expr_stand k (one_and a) = and_stand k a
  expr_stand k (or e s a) = binary_stand k ops.Or _ _ nowhere (expr_stand k e) (and_stand k a)

  and_stand : (k : Bool) (d : And) → AllStand (bare_expr (and_tree d)) (ways k (and_tree d))
  and_stand k (one_cmp c) = cmp_stand k c
  and_stand k (and a s c) = binary_stand k ops.And _ _ nowhere (and_stand k a) (cmp_stand k c)

  cmp_stand : (k : Bool) (d : Cmp) → AllStand (bare_expr (cmp_tree d)) (ways k (cmp_tree d))
  cmp_stand k (one_sum a) = sum_stand k a
  cmp_stand k (compare c a s b) = binary_stand k (comparison_op c) _ _ nowhere (sum_stand k a) (sum_stand k b)

  sum_stand : (k : Bool) (d : Sum) → AllStand (bare_expr (sum_tree d)) (ways k (sum_tree d))
  sum_stand k (one_prod p) = prod_stand k p
  sum_stand k (plus a s p) = binary_stand k ops.Add _ _ nowhere (sum_stand k a) (prod_stand k p)
  sum_stand k (minus a s p) = binary_stand k ops.Sub _ _ nowhere (sum_stand k a) (prod_stand k p)

  prod_stand : (k : Bool) (d : Prod) → AllStand (bare_expr (prod_tree d)) (ways k (prod_tree d))
  prod_stand k (one_unary u) = unary_stand k u
  prod_stand k (times p s u) = binary_stand k ops.Mul _ _ nowhere (prod_stand k p) (unary_stand k u)
  prod_stand k (over p s u) = binary_stand k ops.Div _ _ nowhere (prod_stand k p) (unary_stand k u)

  unary_stand : (k : Bool) (d : Unary) → AllStand (bare_expr (unary_tree d)) (ways k (unary_tree d))
  unary_stand k (bang s u) = record { is = λ i. tree.unary unaries.Not (as_unary (least (ways k (unary_tree u))) (least_stands (bare_expr (unary_tree u)) (ways k (unary_tree u)) (unary_stand k u)) i) nowhere }
  unary_stand k (negative s u) = record { is = λ i. tree.unary unaries.Neg (as_unary (least (ways k (unary_tree u))) (least_stands (bare_expr (unary_tree u)) (ways k (unary_tree u)) (unary_stand k u)) i) nowhere }
  unary_stand k (number v s) = record { is = refl }
  unary_stand k (typed_number v s c ty) = record { is = λ i. tree.typed_number v (scalar_stands k ty i) nowhere }
  unary_stand k (true_ s) = record { is = refl }
  unary_stand k (false_ s) = record { is = refl }
  unary_stand k (pi s) = record { is = refl }
  unary_stand k (place p) = record { is = λ i. tree.place (place_stands k p i) nowhere }
  unary_stand k (called c) = call_stand k c
  unary_stand k (paren l (last e) r) = expr_stand k e
  unary_stand k (paren l (and_more e s es) r) =
      record {
        is = several_listed (to_expr (least (ways k (expr_tree e)))) (exprs_way k (exprs_tree es)) (exprs_long k es)
            ∙ (λ i. tree.tuple (tree.more (best_stands k (expr_tree e) (expr_stand k e) i) (exprs_stand k es i)) nowhere);
      }

  pub scalar_stands : (k : Bool) (d : Scalar) → bare_scalar (scalar_tree (scalar_way k (scalar_tree d))) ≡ bare_scalar (scalar_tree d)
  scalar_stands k (bit s) = refl
  scalar_stands k (uint s l e r) = λ i. tree.uint (best_stands k (expr_tree e) (expr_stand k e) i)
  scalar_stands k (int s l e r) = λ i. tree.int (best_stands k (expr_tree e) (expr_stand k e) i)

  pub place_stands : (k : Bool) (d : Place) → bare_place (place_tree (place_way k (place_tree d))) ≡ bare_place (place_tree d)
  place_stands k (whole n s) = refl
  place_stands k (part n s l e r) = λ i. tree.part n (best_stands k (expr_tree e) (expr_stand k e) i)
  place_stands k (part_of_part n s l e r m f q) = λ i. tree.part_of_part n (best_stands k (expr_tree e) (expr_stand k e) i) (best_stands k (expr_tree f) (expr_stand k f) i)

  call_stand : (k : Bool) (d : Call) → AllStand (bare_expr (call_tree d)) (ways k (call_tree d))
  call_stand k (plain n s l a r) = record { is = call_listed n [] (exprs_way k (args_tree a)) ∙ (λ i. tree.called n tree.none (args_stand k a i) nowhere) }
  call_stand k (with_statics n s l es r m a q) =
      record { is = call_listed n (exprs_way k (exprs_tree es)) (exprs_way k (args_tree a)) ∙ (λ i. tree.called n (exprs_stand k es i) (args_stand k a i) nowhere) }

  args_stand : (k : Bool) (d : Args) → listed (exprs_way k (args_tree d)) ≡ bare_exprs (args_tree d)
  args_stand k no_args = refl
  args_stand k (args es) = exprs_stand k es

  exprs_stand : (k : Bool) (d : Exprs) → listed (exprs_way k (exprs_tree d)) ≡ bare_exprs (exprs_tree d)
  exprs_stand k (last e) = λ i. tree.more (best_stands k (expr_tree e) (expr_stand k e) i) tree.none
  exprs_stand k (and_more e s es) = λ i. tree.more (best_stands k (expr_tree e) (expr_stand k e) i) (exprs_stand k es i)

-- an expression as it is written stands for it
pub written_stands : (k : Bool) (d : Expr) → bare_expr (expr_tree (written k (expr_tree d))) ≡ bare_expr (expr_tree d)
written_stands k d = best_stands k (expr_tree d) (expr_stand k d)
