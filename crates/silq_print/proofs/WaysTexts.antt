-- The tokens of an expression, written in one of its ways.
use Rattle.std.proofs.Common.{◌≡◌, ℕ, ℤ, zero, suc, ◌+◌, ◌<◌, ◌≤◌, drop, get_or, length, ◌==◌, Bool, true, false, ◌&&◌, nat_le, nat_lt, cond, List, [], ◌∷◌, ◌++◌, Option, Some, None, refl, sym, ◌∙◌, ap, subst, append_assoc, append-nil, arith}
use Rattle.std.proofs.lemmas.Bool.Decides.{nat_tests}
use Rattle.silq_tree.specs.declared.node.NameId.{NameId}
use Rattle.silq_tree.specs.declared.node.ExprId.{ExprId}
use Rattle.silq_tree.specs.declared.node.Spot.{Spot}
use Rattle.silq_tree.specs.declared.node.ScalarNode.{ScalarNode}
use Rattle.silq_tree.specs.declared.node.ScalarNode.TheVariants as scalars
use Rattle.silq_tree.specs.declared.node.Expr.TheVariants as exprs
use Rattle.silq_tree.specs.declared.node.UnaryOp.{UnaryOp}
use Rattle.silq_tree.specs.declared.node.UnaryOp.TheVariants as unaries
use Rattle.silq_tree.specs.declared.node.BinaryOp.{BinaryOp}
use Rattle.silq_tree.specs.declared.node.BinaryOp.TheVariants as ops
use Rattle.silq_tree.specs.Syntax as tree
use Rattle.silq_tree.specs.Standing.{expr_grown, expressions_of}
use Rattle.silq_tree.proofs.Lists.{expressions_of-drop, expressions_of-end}
use Rattle.silq_grammar.specs.declared.token.Token.{Token}
use Rattle.silq_grammar.specs.declared.token.Token.TheVariants.{Name, Number, Fixed}
use Rattle.silq_grammar.specs.declared.token.Terminal.TheVariants as t
use Rattle.silq_grammar.specs.Grammar.{Expr}
use Rattle.silq_grammar.specs.Spelled.{expr_text, and_text, cmp_text, sum_text, prod_text, unary_text, call_text, args_text, exprs_text}
use Rattle.silq_print.specs.Bare.{nowhere}
use Rattle.silq_print.specs.Ways.{Written, at_or, at_and, at_cmp, at_sum, at_prod, at_unary, to_expr, in_parens, to_unary, to_prod, to_sum, to_cmp, to_and, join, depth, Ways, only, also, each_way, least, goes_on, lefts, exprs_of, args_of, call_of, ways, exprs_way, written}
use Rattle.silq_print.specs.Levels.{level_of, left_level, right_level, goes_on_at, sign_of, unary_sign, top_level, in_parens_if, is_looser, operand_text}
use Rattle.silq_print.specs.Styles.{nth_way, tight_by, way_text, chain_text, left_text, written_by, all_by, call_by, more_text, list_text, fits, sound, all_sound, is_sound, are_sound, number_of, is_sound_number, number_type_text, index_text, statics_text}
use Rattle.silq_print.specs.Puts.{State, Puts}
use Rattle.silq_print.specs.declared.style.Style.{Style}
use Rattle.silq_print.specs.declared.style.Style.TheVariants.{Given, Around}
use Rattle.silq_print.specs.declared.level.Level.{Level}
use Rattle.silq_print.specs.declared.level.Level.TheVariants as l
use Rattle.silq_print.proofs.Puts.{Left, both_first, both_second, puts_none, puts_both, puts_token, puts_and, puts_weaker, puts_where, puts_as, puts_if}

-- lists

pub list_is : (d : Expr) (ds : List Expr) → list_text (d ∷ ds) ≡ exprs_text (exprs_of (d ∷ ds))
list_is d [] = append-nil (expr_text d)
list_is d (e ∷ es) = ap (λ w. expr_text d ++ (Fixed t.Comma nowhere ∷ w)) (list_is e es)

pub args_is : (ds : List Expr) → list_text ds ≡ args_text (args_of ds)
args_is [] = refl
args_is (d ∷ ds) = list_is d ds

pub call_is : (f : NameId) (ss ds : List Expr)
    → Name f nowhere ∷ (statics_text ss ++ (Fixed t.LeftParen nowhere ∷ (list_text ds ++ (Fixed t.RightParen nowhere ∷ [])))) ≡ call_text (call_of f ss ds)
call_is f [] ds = ap (λ w. Name f nowhere ∷ Fixed t.LeftParen nowhere ∷ (w ++ (Fixed t.RightParen nowhere ∷ []))) (args_is ds)
call_is f (s ∷ ss) ds =
    ap (λ w. Name f nowhere ∷ Fixed t.LeftBracket nowhere ∷ w)
    (append_assoc (list_text (s ∷ ss)) (Fixed t.RightBracket nowhere ∷ []) (Fixed t.LeftParen nowhere ∷ (list_text ds ++ (Fixed t.RightParen nowhere ∷ [])))
    ∙ ap (λ w. w ++ (Fixed t.RightBracket nowhere ∷ Fixed t.LeftParen nowhere ∷ (list_text ds ++ (Fixed t.RightParen nowhere ∷ [])))) (list_is s ss)
    ∙ ap (λ w. exprs_text (exprs_of (s ∷ ss)) ++ (Fixed t.RightBracket nowhere ∷ Fixed t.LeftParen nowhere ∷ (w ++ (Fixed t.RightParen nowhere ∷ [])))) (args_is ds))

pub two_indexes : (n : NameId) (d e : Expr)
    → Name n nowhere ∷ (index_text d ++ index_text e)
    ≡ Name n nowhere ∷ Fixed t.LeftBracket nowhere ∷ (expr_text d ++ (Fixed t.RightBracket nowhere ∷ Fixed t.LeftBracket nowhere ∷ (expr_text e ++ (Fixed t.RightBracket nowhere ∷ []))))
two_indexes n d e = ap (λ w. Name n nowhere ∷ Fixed t.LeftBracket nowhere ∷ w) (append_assoc (expr_text d) (Fixed t.RightBracket nowhere ∷ []) (index_text e))

-- the style that is given

pub all_given : (tight : Bool) (es : tree.Expressions) → all_by (Given tight) es ≡ exprs_way tight es
all_given tight tree.none = refl
all_given tight (tree.more e es) = ap (λ w. written tight e ∷ w) (all_given tight es)

pub sound_given : (tight : Bool) (es : tree.Expressions) → are_sound (Given tight) es ≡ all_sound tight es
sound_given tight tree.none = refl
sound_given tight (tree.more e es) = ap (λ b. sound tight e && b) (sound_given tight es)

-- levels

abbrev pub level : Written → Level
level (at_or d) = l.Or
level (at_and d) = l.And
level (at_cmp d) = l.Comparison
level (at_sum d) = l.Sum
level (at_prod d) = l.Product
level (at_unary d) = l.Unary

-- an expression as an operand of a level
abbrev pub as_operand : Level → Written → List Token
as_operand own w = in_parens_if (is_looser (level w) own) (expr_text (to_expr w))

pub unary_is : (w : Written) → unary_text (to_unary w) ≡ as_operand l.Unary w
unary_is (at_or d) = refl
unary_is (at_and d) = refl
unary_is (at_cmp d) = refl
unary_is (at_sum d) = refl
unary_is (at_prod d) = refl
unary_is (at_unary d) = refl

pub prod_is : (w : Written) → prod_text (to_prod w) ≡ as_operand l.Product w
prod_is (at_or d) = refl
prod_is (at_and d) = refl
prod_is (at_cmp d) = refl
prod_is (at_sum d) = refl
prod_is (at_prod d) = refl
prod_is (at_unary d) = refl

pub sum_is : (w : Written) → sum_text (to_sum w) ≡ as_operand l.Sum w
sum_is (at_or d) = refl
sum_is (at_and d) = refl
sum_is (at_cmp d) = refl
sum_is (at_sum d) = refl
sum_is (at_prod d) = refl
sum_is (at_unary d) = refl

pub cmp_is : (w : Written) → cmp_text (to_cmp w) ≡ as_operand l.Comparison w
cmp_is (at_or d) = refl
cmp_is (at_and d) = refl
cmp_is (at_cmp d) = refl
cmp_is (at_sum d) = refl
cmp_is (at_prod d) = refl
cmp_is (at_unary d) = refl

pub and_is : (w : Written) → and_text (to_and w) ≡ as_operand l.And w
and_is (at_or d) = refl
and_is (at_and d) = refl
and_is (at_cmp d) = refl
and_is (at_sum d) = refl
and_is (at_prod d) = refl
and_is (at_unary d) = refl

pub or_is : (w : Written) → expr_text (to_expr w) ≡ as_operand l.Or w
or_is (at_or d) = refl
or_is (at_and d) = refl
or_is (at_cmp d) = refl
or_is (at_sum d) = refl
or_is (at_prod d) = refl
or_is (at_unary d) = refl

both_sides : {a b c d : List Token} (x : Token) → a ≡ b → c ≡ d → a ++ (x ∷ c) ≡ b ++ (x ∷ d)
both_sides {a = a} {b = b} {c = c} {d = d} x e f = ap (λ w. w ++ (x ∷ c)) e ∙ ap (λ w. b ++ (x ∷ w)) f

pub join_is : (op : BinaryOp) (v w : Written) → expr_text (to_expr (join op v w)) ≡ as_operand (left_level op) v ++ (Fixed (sign_of op) nowhere ∷ as_operand (right_level op) w)
join_is ops.Or v w = both_sides _ (or_is v) (and_is w)
join_is ops.And v w = both_sides _ (and_is v) (cmp_is w)
join_is ops.Eq v w = both_sides _ (sum_is v) (sum_is w)
join_is ops.Ne v w = both_sides _ (sum_is v) (sum_is w)
join_is ops.Lt v w = both_sides _ (sum_is v) (sum_is w)
join_is ops.Le v w = both_sides _ (sum_is v) (sum_is w)
join_is ops.Gt v w = both_sides _ (sum_is v) (sum_is w)
join_is ops.Ge v w = both_sides _ (sum_is v) (sum_is w)
join_is ops.Add v w = both_sides _ (sum_is v) (prod_is w)
join_is ops.Sub v w = both_sides _ (sum_is v) (prod_is w)
join_is ops.Mul v w = both_sides _ (prod_is v) (unary_is w)
join_is ops.Div v w = both_sides _ (prod_is v) (unary_is w)

pub join_level : (op : BinaryOp) (v w : Written) → level (join op v w) ≡ level_of op
join_level ops.Or v w = refl
join_level ops.And v w = refl
join_level ops.Eq v w = refl
join_level ops.Ne v w = refl
join_level ops.Lt v w = refl
join_level ops.Le v w = refl
join_level ops.Gt v w = refl
join_level ops.Ge v w = refl
join_level ops.Add v w = refl
join_level ops.Sub v w = refl
join_level ops.Mul v w = refl
join_level ops.Div v w = refl

pub goes_on_is : (op : BinaryOp) (w : Written) → goes_on op w ≡ goes_on_at op (level w)
goes_on_is ops.Or (at_or d) = refl
goes_on_is ops.Or (at_and d) = refl
goes_on_is ops.Or (at_cmp d) = refl
goes_on_is ops.Or (at_sum d) = refl
goes_on_is ops.Or (at_prod d) = refl
goes_on_is ops.Or (at_unary d) = refl
goes_on_is ops.And (at_or d) = refl
goes_on_is ops.And (at_and d) = refl
goes_on_is ops.And (at_cmp d) = refl
goes_on_is ops.And (at_sum d) = refl
goes_on_is ops.And (at_prod d) = refl
goes_on_is ops.And (at_unary d) = refl
goes_on_is ops.Add (at_or d) = refl
goes_on_is ops.Add (at_and d) = refl
goes_on_is ops.Add (at_cmp d) = refl
goes_on_is ops.Add (at_sum d) = refl
goes_on_is ops.Add (at_prod d) = refl
goes_on_is ops.Add (at_unary d) = refl
goes_on_is ops.Sub (at_or d) = refl
goes_on_is ops.Sub (at_and d) = refl
goes_on_is ops.Sub (at_cmp d) = refl
goes_on_is ops.Sub (at_sum d) = refl
goes_on_is ops.Sub (at_prod d) = refl
goes_on_is ops.Sub (at_unary d) = refl
goes_on_is ops.Mul (at_or d) = refl
goes_on_is ops.Mul (at_and d) = refl
goes_on_is ops.Mul (at_cmp d) = refl
goes_on_is ops.Mul (at_sum d) = refl
goes_on_is ops.Mul (at_prod d) = refl
goes_on_is ops.Mul (at_unary d) = refl
goes_on_is ops.Div (at_or d) = refl
goes_on_is ops.Div (at_and d) = refl
goes_on_is ops.Div (at_cmp d) = refl
goes_on_is ops.Div (at_sum d) = refl
goes_on_is ops.Div (at_prod d) = refl
goes_on_is ops.Div (at_unary d) = refl
goes_on_is ops.Eq w = refl
goes_on_is ops.Ne w = refl
goes_on_is ops.Lt w = refl
goes_on_is ops.Le w = refl
goes_on_is ops.Gt w = refl
goes_on_is ops.Ge w = refl

-- a chain that goes on is no looser than the sign wants
pub chain_fits : (op : BinaryOp) (own : Level) → goes_on_at op own ≡ true → is_looser own (left_level op) ≡ false
chain_fits ops.Or l.Or h = refl
chain_fits ops.Or l.And h = cc
chain_fits ops.Or l.Comparison h = cc
chain_fits ops.Or l.Sum h = cc
chain_fits ops.Or l.Product h = cc
chain_fits ops.Or l.Unary h = cc
chain_fits ops.And l.And h = refl
chain_fits ops.And l.Or h = cc
chain_fits ops.And l.Comparison h = cc
chain_fits ops.And l.Sum h = cc
chain_fits ops.And l.Product h = cc
chain_fits ops.And l.Unary h = cc
chain_fits ops.Add l.Sum h = refl
chain_fits ops.Add l.Or h = cc
chain_fits ops.Add l.And h = cc
chain_fits ops.Add l.Comparison h = cc
chain_fits ops.Add l.Product h = cc
chain_fits ops.Add l.Unary h = cc
chain_fits ops.Sub l.Sum h = refl
chain_fits ops.Sub l.Or h = cc
chain_fits ops.Sub l.And h = cc
chain_fits ops.Sub l.Comparison h = cc
chain_fits ops.Sub l.Product h = cc
chain_fits ops.Sub l.Unary h = cc
chain_fits ops.Mul l.Product h = refl
chain_fits ops.Mul l.Or h = cc
chain_fits ops.Mul l.And h = cc
chain_fits ops.Mul l.Comparison h = cc
chain_fits ops.Mul l.Sum h = cc
chain_fits ops.Mul l.Unary h = cc
chain_fits ops.Div l.Product h = refl
chain_fits ops.Div l.Or h = cc
chain_fits ops.Div l.And h = cc
chain_fits ops.Div l.Comparison h = cc
chain_fits ops.Div l.Sum h = cc
chain_fits ops.Div l.Unary h = cc
chain_fits ops.Eq own h = cc
chain_fits ops.Ne own h = cc
chain_fits ops.Lt own h = cc
chain_fits ops.Le own h = cc
chain_fits ops.Gt own h = cc
chain_fits ops.Ge own h = cc

-- and so is what stands in parentheses
pub unary_fits : (op : BinaryOp) → is_looser l.Unary (left_level op) ≡ false
unary_fits ops.Or = refl
unary_fits ops.And = refl
unary_fits ops.Eq = refl
unary_fits ops.Ne = refl
unary_fits ops.Lt = refl
unary_fits ops.Le = refl
unary_fits ops.Gt = refl
unary_fits ops.Ge = refl
unary_fits ops.Add = refl
unary_fits ops.Sub = refl
unary_fits ops.Mul = refl
unary_fits ops.Div = refl

-- the number of the least deep way
abbrev pub best : Ways → ℕ
best (only w) = 0
best (also w ws) = cond (nat_le (depth w) (depth (least ws))) 0 (suc (best ws))

pub best_is : (ws : Ways) → nth_way (best ws) ws ≡ least ws
best_is (only w) = refl
best_is (also w ws) = at_test (nat_le (depth w) (depth (least ws))) (best_is ws)
  where
    at_test : (b : Bool) → nth_way (best ws) ws ≡ least ws → nth_way (cond b 0 (suc (best ws))) (also w ws) ≡ cond b w (least ws)
    at_test true h = refl
    at_test false h = h

pub nth_each : (f : Written → Written) (k : ℕ) (ws : Ways) → nth_way k (each_way f ws) ≡ f (nth_way k ws)
nth_each f k (only w) = refl
nth_each f zero (also w ws) = refl
nth_each f (suc k) (also w ws) = nth_each f k ws

-- each way is on the level of the outermost sign
pub nth_level : (tight : Bool) (k : ℕ) (e : tree.Expression) → level (nth_way k (ways tight e)) ≡ top_level e
nth_level tight k (tree.number v at) = refl
nth_level tight k (tree.typed_number v ty at) = refl
nth_level tight k (tree.truth true at) = refl
nth_level tight k (tree.truth false at) = refl
nth_level tight k (tree.pi at) = refl
nth_level tight k (tree.place p at) = refl
nth_level tight k (tree.called f ss es at) = refl
nth_level tight k (tree.tuple es at) = refl
nth_level tight k (tree.unary op e at) = refl
nth_level tight k (tree.binary op x y at) =
    ap level (nth_each (λ w. join op w (least (ways tight y))) k (lefts tight op (ways tight x)))
    ∙ join_level op (nth_way k (lefts tight op (ways tight x))) (least (ways tight y))

pub least_level : (tight : Bool) (e : tree.Expression) → level (least (ways tight e)) ≡ top_level e
least_level tight e = ap level (sym (best_is (ways tight e))) ∙ nth_level tight (best (ways tight e)) e

-- an operand that is the least deep way
pub operand_is : (own : Level) (tight : Bool) (e : tree.Expression) → as_operand own (least (ways tight e)) ≡ operand_text own tight e
operand_is own tight e = ap (λ m. in_parens_if (is_looser m own) (expr_text (to_expr (least (ways tight e))))) (least_level tight e)

-- the left operand in a way
pub left_is : (op : BinaryOp) (tight : Bool) (k : ℕ) (e : tree.Expression) → as_operand (left_level op) (nth_way k (lefts tight op (ways tight e))) ≡ left_text op tight k e
left_is op tight k e = at_tests tight (goes_on_at op (top_level e)) refl (goes_on_is op (least (ways tight e)) ∙ ap (goes_on_at op) (least_level tight e))
  where
    chain_is : (j : ℕ) → goes_on_at op (top_level e) ≡ true → as_operand (left_level op) (nth_way j (also (at_unary (in_parens (least (ways tight e)))) (ways tight e))) ≡ chain_text tight j e
    chain_is zero h = ap (λ b. in_parens_if b (in_parens_if true (expr_text (written tight e)))) (unary_fits op)
    chain_is (suc j) h =
        ap (λ m. in_parens_if (is_looser m (left_level op)) (way_text tight j e)) (nth_level tight j e)
        ∙ ap (λ b. in_parens_if b (way_text tight j e)) (chain_fits op (top_level e) h)

    at_tests : (c b : Bool) → goes_on_at op (top_level e) ≡ b → goes_on op (least (ways tight e)) ≡ goes_on_at op (top_level e)
        → as_operand (left_level op) (nth_way k (cond (c && goes_on op (least (ways tight e))) (also (at_unary (in_parens (least (ways tight e)))) (ways tight e)) (only (least (ways tight e)))))
        ≡ cond (c && goes_on_at op (top_level e)) (chain_text tight k e) (operand_text (left_level op) tight e)
    at_tests false b h g = operand_is (left_level op) tight e
    at_tests true true h g = rw (g ∙ h) (rw h (chain_is k h))
    at_tests true false h g = rw (g ∙ h) (rw h (operand_is (left_level op) tight e))

pub binary_is : (op : BinaryOp) (tight : Bool) (k : ℕ) (x y : tree.Expression) (at : Spot)
    → left_text op tight k x ++ (Fixed (sign_of op) nowhere ∷ operand_text (right_level op) tight y) ≡ way_text tight k (tree.binary op x y at)
binary_is op tight k x y at =
    sym (ap (λ w. expr_text (to_expr w)) (nth_each (λ w. join op w (least (ways tight y))) k (lefts tight op (ways tight x)))
    ∙ join_is op (nth_way k (lefts tight op (ways tight x))) (least (ways tight y))
    ∙ both_sides _ (left_is op tight k x) (operand_is (right_level op) tight y))

pub unary_way : (op : UnaryOp) (tight : Bool) (k : ℕ) (e : tree.Expression) (at : Spot)
    → Fixed (unary_sign op) nowhere ∷ operand_text l.Unary tight e ≡ way_text tight k (tree.unary op e at)
unary_way unaries.Not tight k e at = sym (ap (λ w. Fixed t.Bang nowhere ∷ w) (unary_is (least (ways tight e)) ∙ operand_is l.Unary tight e))
unary_way unaries.Neg tight k e at = sym (ap (λ w. Fixed t.Minus nowhere ∷ w) (unary_is (least (ways tight e)) ∙ operand_is l.Unary tight e))

-- Nodes: what was put of the parts is what is put of the node.

-- with the fewest parentheses there is one way
pub one_way : (k : ℕ) (e : tree.Expression) → nth_way k (ways false e) ≡ least (ways false e)
one_way k (tree.number v at) = refl
one_way k (tree.typed_number v ty at) = refl
one_way k (tree.truth true at) = refl
one_way k (tree.truth false at) = refl
one_way k (tree.pi at) = refl
one_way k (tree.place p at) = refl
one_way k (tree.called f ss es at) = refl
one_way k (tree.tuple es at) = refl
one_way k (tree.unary op e at) = refl
one_way k (tree.binary op x y at) = refl

pub best_way : (tight : Bool) (k : ℕ) (e : tree.Expression) → (fits tight e ≡ true → nth_way k (ways tight e) ≡ least (ways tight e)) → sound tight e ≡ true → nth_way k (ways tight e) ≡ least (ways tight e)
best_way tight k (tree.number v at) h g = refl
best_way tight k (tree.typed_number v ty at) h g = refl
best_way tight k (tree.truth true at) h g = refl
best_way tight k (tree.truth false at) h g = refl
best_way tight k (tree.pi at) h g = refl
best_way tight k (tree.place p at) h g = refl
best_way tight k (tree.called f ss es at) h g = refl
best_way tight k (tree.tuple es at) h g = refl
best_way tight k (tree.unary op e at) h g = refl
best_way tight k (tree.binary op x y at) h g = h (both_first (fits tight (tree.binary op x y at)) (sound tight x && sound tight y) g)

above : (n d : ℕ) → nat_lt 64 (n + d) ≡ cond (nat_le (n + d) 64) false true
above n d = at_test (nat_le (n + d) 64) refl
  where
    at_test : (b : Bool) → nat_le (n + d) 64 ≡ b → nat_lt 64 (n + d) ≡ cond b false true
    at_test true e = grind (arith, nat_tests)
    at_test false e = grind (arith, nat_tests)

module _ {names : List (List ℕ)} where
  pub puts_best : {s u : State} (tight : Bool) (k : ℕ) (e : tree.Expression) → (fits tight e ≡ true → nth_way k (ways tight e) ≡ least (ways tight e))
      → Puts (sound tight e) names s u (way_text tight k e) → Puts (sound tight e) names s u (expr_text (written tight e))
  puts_best tight k e h p = puts_where (λ g. ap (λ w. expr_text (to_expr w)) (best_way tight k e h g)) p

  pub puts_style : {s u : State} (style : Style) (tight : Bool) (e : tree.Expression) → tight ≡ tight_by style e
      → Puts (sound tight e) names s u (expr_text (written tight e)) → Puts (is_sound style e) names s u (expr_text (written_by style e))
  puts_style {s = s} {u = u} (Given given) tight e h p = subst (λ c. Puts (sound c e) names s u (expr_text (written c e))) h p
  puts_style {s = s} {u = u} (Around n) tight e h p =
      at_test (nat_le (n + depth (least (ways false e))) 64) (subst (λ c. Puts (sound c e) names s u (expr_text (written c e))) (h ∙ above n (depth (least (ways false e)))) p)
    where
      at_test : (b : Bool) → Puts (sound (cond b false true) e) names s u (expr_text (written (cond b false true) e))
          → Puts (cond b (sound false e) (sound true e)) names s u (expr_text (cond b (written false e) (written true e)))
      at_test true q = q
      at_test false q = q

  module _ (at : ExprId → tree.Expression) (tight : Bool) (k : ℕ) where
    pub puts_number : {s m u : State} (v : ℤ) (ty : Option ScalarNode) (spot : Spot) → Puts true names s m (Number v nowhere ∷ [])
        → Puts (is_sound_number (Given tight) (number_of at ty)) names m u (number_type_text (Given tight) (number_of at ty))
        → Puts (sound tight (expr_grown at (exprs.Number v ty spot))) names s u (way_text tight k (expr_grown at (exprs.Number v ty spot)))
    puts_number v None spot p q = puts_token p q
    puts_number v (Some scalars.Bit) spot p q = puts_token p q
    puts_number v (Some (scalars.UInt e)) spot p q = puts_token p q
    puts_number v (Some (scalars.Int e)) spot p q = puts_token p q

    pub puts_called : {s u : State} (f : NameId) (ss es : tree.Expressions) (spot : Spot)
        → Puts (are_sound (Given tight) ss && are_sound (Given tight) es) names s u (call_text (call_by (Given tight) f ss es))
        → Puts (sound tight (tree.called f ss es spot)) names s u (way_text tight k (tree.called f ss es spot))
    puts_called f ss es spot p =
        puts_if (ap (λ b. b && are_sound (Given tight) es) (sound_given tight ss) ∙ ap (λ b. all_sound tight ss && b) (sound_given tight es))
        (puts_as (ap (λ xs. call_text (call_of f xs (all_by (Given tight) es))) (all_given tight ss) ∙ ap (λ xs. call_text (call_of f (exprs_way tight ss) xs)) (all_given tight es)) p)

    pub puts_tuple : {s u : State} (es : tree.Expressions) (spot : Spot)
        → Puts (are_sound (Given tight) es) names s u (in_parens_if true (list_text (all_by (Given tight) es)))
        → Puts (sound tight (tree.tuple es spot)) names s u (way_text tight k (tree.tuple es spot))
    puts_tuple tree.none spot p = puts_where (λ h. cc) (puts_weaker (λ h. refl) p)
    puts_tuple (tree.more e es) spot p =
        puts_if (ap (λ b. sound tight e && b) (sound_given tight es))
        (puts_as (ap (λ xs. in_parens_if true (list_text (written tight e ∷ xs))) (all_given tight es) ∙ ap (in_parens_if true) (list_is (written tight e) (exprs_way tight es))) p)

    pub puts_unary : {s m u : State} (op : UnaryOp) (e : tree.Expression) (spot : Spot) → Puts true names s m (Fixed (unary_sign op) nowhere ∷ [])
        → Puts (sound tight e) names m u (operand_text l.Unary tight e)
        → Puts (sound tight (tree.unary op e spot)) names s u (way_text tight k (tree.unary op e spot))
    puts_unary op e spot p q = puts_as (unary_way op tight k e spot) (puts_token p q)

    pub puts_binary : {s m n u : State} (op : BinaryOp) (x y : tree.Expression) (spot : Spot) → Puts (sound tight x) names s m (left_text op tight k x)
        → Puts true names m n (Fixed (sign_of op) nowhere ∷ []) → Puts (sound tight y) names n u (operand_text (right_level op) tight y)
        → Puts (sound tight (tree.binary op x y spot)) names s u (way_text tight k (tree.binary op x y spot))
    puts_binary op x y spot p q r =
        puts_as (binary_is op tight k x y spot)
        (puts_weaker (both_second (fits tight (tree.binary op x y spot)) (sound tight x && sound tight y)) (puts_both p (puts_token q r)))

-- lists, the ids of the nodes in order

module _ {names : List (List ℕ)} (at : ExprId → tree.Expression) (style : Style) where
  -- one more of a list
  pub next_of_list : {s m n o : State} {all_sound : Bool} {all : List Token} (ids : List ExprId) (i : ℕ) (d : ExprId) → i < length ids
      → Left names s all_sound all m (are_sound style (expressions_of at (drop i ids))) (more_text (all_by style (expressions_of at (drop i ids))))
      → Puts true names m n (Fixed t.Comma nowhere ∷ []) → Puts (is_sound style (at (get_or ids i d))) names n o (expr_text (written_by style (at (get_or ids i d))))
      → Left names s all_sound all o (are_sound style (expressions_of at (drop (i + 1) ids))) (more_text (all_by style (expressions_of at (drop (i + 1) ids))))
  next_of_list ids i d l left p q = λ u r.
      left u (rw (expressions_of-drop at ids i d l) (puts_token p (puts_both q r)))

  pub end_of_list : {s m : State} {all_sound : Bool} {all : List Token} (ids : List ExprId) (i : ℕ) → length ids ≤ i
      → Left names s all_sound all m (are_sound style (expressions_of at (drop i ids))) (more_text (all_by style (expressions_of at (drop i ids))))
      → Puts all_sound names s m all
  end_of_list {m = m} ids i l left = left m (rw (expressions_of-end at ids i l) (puts_none names m))

  -- the first of a list
  pub first_of_list : {s m : State} (ids : List ExprId) (d : ExprId) (rest : List ExprId) → ids ≡ d ∷ rest
      → Puts (is_sound style (at d)) names s m (expr_text (written_by style (at d)))
      → Left names s (are_sound style (expressions_of at ids)) (list_text (all_by style (expressions_of at ids))) m (are_sound style (expressions_of at rest)) (more_text (all_by style (expressions_of at rest)))
  first_of_list ids d rest e p = λ u q. rw e (puts_both p q)

  -- static arguments, of which there are some
  pub puts_statics : {s m n u : State} (ids : List ExprId) → false ≡ (length ids == 0) → Puts true names s m (Fixed t.LeftBracket nowhere ∷ [])
      → Puts (are_sound style (expressions_of at ids)) names m n (list_text (all_by style (expressions_of at ids))) → Puts true names n u (Fixed t.RightBracket nowhere ∷ [])
      → Puts (are_sound style (expressions_of at ids)) names s u (statics_text (all_by style (expressions_of at ids)))
  puts_statics [] e p q r = cc
  puts_statics (d ∷ ids) e p q r = puts_token p (puts_and q r)
