-- The tokens of statements.
use Rattle.std.proofs.Common.{◌≡◌, ℕ, zero, suc, ◌+◌, ◌<◌, ◌≤◌, drop, get_or, length, Bool, true, false, ◌&&◌, List, [], ◌∷◌, ◌++◌, refl, sym, ◌∙◌, ap, append_assoc, append-nil, drop-cons, add-one, arith}
use Rattle.silq_tree.specs.declared.node.NameId.{NameId}
use Rattle.silq_tree.specs.declared.node.ExprId.{ExprId}
use Rattle.silq_tree.specs.declared.node.StmtId.{StmtId}
use Rattle.silq_tree.specs.declared.node.Spot.{Spot}
use Rattle.silq_tree.specs.Syntax as tree
use Rattle.silq_tree.specs.Standing.{statements_of}
use Rattle.silq_tree.proofs.Lists.{statements_of-drop, statements_of-end}
use Rattle.silq_grammar.specs.declared.token.Token.{Token}
use Rattle.silq_grammar.specs.declared.token.Token.TheVariants.{Name, Fixed}
use Rattle.silq_grammar.specs.declared.token.Terminal.TheVariants as t
use Rattle.silq_grammar.specs.Grammar as g
use Rattle.silq_grammar.specs.Spelled.{expr_text, names_text, stmt_text, stmts_text, choice_text, block_text}
use Rattle.silq_print.specs.Bare.{nowhere}
use Rattle.silq_print.specs.Derived.{Rest, no_rest, block_rest, choice_rest, expr_in, names_of, rest_of, choice_of, stmt_in, choice_in, rest_in, stmts_in}
use Rattle.silq_print.specs.Styles.{is_sound}
use Rattle.silq_print.specs.Statements.{rest_text, braces_text, more_names, names_list, spread_text, loop_head, is_choice, is_sound_stmt, is_sound_rest, are_sound_stmts}
use Rattle.silq_print.specs.Puts.{State, Puts}
use Rattle.silq_print.specs.declared.style.Style.TheVariants.{Around}
use Rattle.silq_print.proofs.Puts.{Left, both_first, both_second, puts_none, puts_both, puts_token, puts_weaker, puts_where, puts_as, puts_if}

-- the statements of a block that are left, and the closing brace
abbrev pub rest_of_block : ℕ → tree.Statements → List Token
rest_of_block n ss = stmts_text (stmts_in (1 + n) ss) ++ (Fixed t.RightBrace nowhere ∷ [])

drop-end : (xs : List NameId) (i : ℕ) → length xs ≤ i → drop i xs ≡ []
drop-end [] zero l = refl
drop-end [] (suc i) l = refl
drop-end (x ∷ xs) zero l = absurd (omega arith)
drop-end (x ∷ xs) (suc i) l = drop-end xs i (omega arith)

names_are : (x : NameId) (xs : List NameId) → Name x nowhere ∷ more_names xs ≡ names_text (names_of x xs)
names_are x [] = refl
names_are x (y ∷ ys) = ap (λ w. Name x nowhere ∷ Fixed t.Comma nowhere ∷ w) (names_are y ys)

choice_is : (e : g.Expr) (b : g.Block) (r : Rest) → Fixed t.If nowhere ∷ (expr_text e ++ (block_text b ++ rest_text r)) ≡ choice_text (choice_of e b r)
choice_is e b no_rest = ap (λ w. Fixed t.If nowhere ∷ (expr_text e ++ w)) (append-nil (block_text b))
choice_is e b (block_rest d) = refl
choice_is e b (choice_rest c) = refl

and_assoc : (a b c : Bool) → ((a && b) && c) ≡ (a && (b && c))
and_assoc true b c = refl
and_assoc false b c = refl

loop_is : (n : ℕ) (x : NameId) (e f : tree.Expression) (b : List Token) → loop_head n x e f ++ b
    ≡ Fixed t.For nowhere ∷ Name x nowhere ∷ Fixed t.In nowhere ∷ Fixed t.LeftBracket nowhere ∷ (expr_text (expr_in (1 + n) e) ++ (Fixed t.Dots nowhere ∷ (expr_text (expr_in (1 + n) f) ++ (Fixed t.RightParen nowhere ∷ b))))
loop_is n x e f b =
    ap (λ w. Fixed t.For nowhere ∷ Name x nowhere ∷ Fixed t.In nowhere ∷ Fixed t.LeftBracket nowhere ∷ w)
    (append_assoc (expr_text (expr_in (1 + n) e)) (Fixed t.Dots nowhere ∷ (expr_text (expr_in (1 + n) f) ++ (Fixed t.RightParen nowhere ∷ []))) b
    ∙ ap (λ w. expr_text (expr_in (1 + n) e) ++ (Fixed t.Dots nowhere ∷ w)) (append_assoc (expr_text (expr_in (1 + n) f)) (Fixed t.RightParen nowhere ∷ []) b))

as_choice : (n : ℕ) (c : tree.Statement) → is_choice c ≡ true → stmt_text (stmt_in n c) ≡ choice_text (choice_in n c)
as_choice n (tree.choice e b o at) h = refl
as_choice n (tree.assign p e at) h = cc
as_choice n (tree.spread xs e at) h = cc
as_choice n (tree.update p op e at) h = cc
as_choice n (tree.forget x at) h = cc
as_choice n (tree.forget_value x e at) h = cc
as_choice n (tree.phase e at) h = cc
as_choice n (tree.loop x e f b at) h = cc
as_choice n (tree.return_nothing at) h = cc
as_choice n (tree.return_value e at) h = cc
as_choice n (tree.call e at) h = cc

module _ {names : List (List ℕ)} where
  -- names

  pub first_of_names : {s m : State} (xs : List NameId) (x : NameId) (rest : List NameId) → xs ≡ x ∷ rest → Puts true names s m (Name x nowhere ∷ [])
      → Left names s true (names_list xs) m true (more_names rest)
  first_of_names xs x rest e p = λ u q. rw e (puts_token p q)

  pub next_of_names : {s m n o : State} {all : List Token} (xs : List NameId) (i : ℕ) (d : NameId) → i < length xs → Left names s true all m true (more_names (drop i xs))
      → Puts true names m n (Fixed t.Comma nowhere ∷ []) → Puts true names n o (Name (get_or xs i d) nowhere ∷ []) → Left names s true all o true (more_names (drop (i + 1) xs))
  next_of_names xs i d l left p q = λ u r. left u (rw (drop-cons xs i d l) (puts_token p (puts_token q (rw (add-one i) at r))))

  pub end_of_names : {s m : State} {all : List Token} (xs : List NameId) (i : ℕ) → length xs ≤ i → Left names s true all m true (more_names (drop i xs)) → Puts true names s m all
  end_of_names {m = m} xs i l left = left m (rw (drop-end xs i l) (puts_none names m))

  -- a call that stands alone, and what does not

  pub puts_nothing : (s : State) (ts : List Token) → Puts false names s s ts
  puts_nothing s ts = puts_where (λ h. cc) (puts_weaker (λ h. refl) (puts_none names s))

  -- the parts of a statement

  pub puts_spread : {s u : State} (n : ℕ) (xs : List NameId) (e : tree.Expression) (at : Spot) → Puts (is_sound (Around n) e) names s u (spread_text n xs e)
      → Puts (is_sound_stmt n (tree.spread xs e at)) names s u (stmt_text (stmt_in n (tree.spread xs e at)))
  puts_spread n [] e at p = puts_where (λ h. cc) (puts_weaker (λ h. cc) p)
  puts_spread n (x ∷ []) e at p = puts_where (λ h. cc) (puts_weaker (λ h. cc) p)
  puts_spread n (x ∷ y ∷ ys) e at p =
      puts_as (ap (λ w. Fixed t.LeftParen nowhere ∷ Name x nowhere ∷ Fixed t.Comma nowhere ∷ (w ++ (Fixed t.RightParen nowhere ∷ Fixed t.Becomes nowhere ∷ (expr_text (expr_in n e) ++ (Fixed t.Semicolon nowhere ∷ []))))) (names_are y ys)) p

  pub puts_choice : {s m n m2 u : State} (k : ℕ) (e : tree.Expression) (b : tree.Statements) (o : tree.Otherwise) (end at : Spot)
      → Puts true names s m (Fixed t.If nowhere ∷ []) → Puts (is_sound (Around k) e) names m n (expr_text (expr_in k e))
      → Puts (are_sound_stmts (1 + k) b) names n m2 (braces_text k b) → Puts (is_sound_rest k o) names m2 u (rest_text (rest_in k o))
      → Puts (is_sound_stmt k (tree.choice e (tree.block b end) o at)) names s u (stmt_text (stmt_in k (tree.choice e (tree.block b end) o at)))
  puts_choice k e b o end at p q r f =
      puts_as (choice_is (expr_in k e) (g.braces nowhere (stmts_in (1 + k) b) nowhere) (rest_in k o)) (puts_token p (puts_both q (puts_both r f)))

  pub puts_loop : {s m u : State} (n : ℕ) (x : NameId) (e f : tree.Expression) (b : tree.Statements) (end at : Spot)
      → Puts (is_sound (Around (1 + n)) e && is_sound (Around (1 + n)) f) names s m (loop_head n x e f) → Puts (are_sound_stmts (1 + n) b) names m u (braces_text n b)
      → Puts (is_sound_stmt n (tree.loop x e f (tree.block b end) at)) names s u (stmt_text (stmt_in n (tree.loop x e f (tree.block b end) at)))
  puts_loop n x e f b end at p q =
      puts_if (and_assoc (is_sound (Around (1 + n)) e) (is_sound (Around (1 + n)) f) (are_sound_stmts (1 + n) b)) (puts_as (loop_is n x e f (braces_text n b)) (puts_both p q))

  pub puts_block_rest : {s m u : State} (at : ExprId → tree.Expression) (stmt : StmtId → tree.Statement) (n : ℕ) (ids : List StmtId) → 0 < length ids
      → Puts true names s m (Fixed t.Else nowhere ∷ []) → Puts (are_sound_stmts (1 + n) (statements_of at stmt ids)) names m u (braces_text n (statements_of at stmt ids))
      → Puts (are_sound_stmts (1 + n) (statements_of at stmt ids)) names s u (rest_text (rest_of (g.braces nowhere (stmts_in (1 + n) (statements_of at stmt ids)) nowhere)))
  puts_block_rest at stmt n [] h p q = absurd (omega arith)
  puts_block_rest at stmt n (i ∷ ids) h p q = puts_token p q

  pub puts_else_choice : {s m u : State} (n : ℕ) (c : tree.Statement) → Puts true names s m (Fixed t.Else nowhere ∷ []) → Puts (is_sound_stmt (1 + n) c) names m u (stmt_text (stmt_in (1 + n) c))
      → Puts (is_choice c && is_sound_stmt (1 + n) c) names s u (Fixed t.Else nowhere ∷ choice_text (choice_in (1 + n) c))
  puts_else_choice n c p q = puts_where (λ h. ap (λ w. Fixed t.Else nowhere ∷ w) (as_choice (1 + n) c (both_first (is_choice c) (is_sound_stmt (1 + n) c) h)))
      (puts_weaker (both_second (is_choice c) (is_sound_stmt (1 + n) c)) (puts_token p q))

module _ {names : List (List ℕ)} (at : ExprId → tree.Expression) (stmt : StmtId → tree.Statement) (n : ℕ) where
  pub first_of_block : {s m : State} (ids : List StmtId) → Puts true names s m (Fixed t.LeftBrace nowhere ∷ [])
      → Left names s (are_sound_stmts (1 + n) (statements_of at stmt ids)) (braces_text n (statements_of at stmt ids)) m
      (are_sound_stmts (1 + n) (statements_of at stmt ids)) (rest_of_block n (statements_of at stmt ids))
  first_of_block ids p = λ u q. puts_token p q

  pub next_of_block : {s m o : State} {all_sound : Bool} {all : List Token} (ids : List StmtId) (i : ℕ) (d : StmtId) → i < length ids
      → Left names s all_sound all m (are_sound_stmts (1 + n) (statements_of at stmt (drop i ids))) (rest_of_block n (statements_of at stmt (drop i ids)))
      → Puts (is_sound_stmt (1 + n) (stmt (get_or ids i d))) names m o (stmt_text (stmt_in (1 + n) (stmt (get_or ids i d))))
      → Left names s all_sound all o (are_sound_stmts (1 + n) (statements_of at stmt (drop (i + 1) ids))) (rest_of_block n (statements_of at stmt (drop (i + 1) ids)))
  next_of_block ids i d l left p = λ u r. left u (rw (statements_of-drop at stmt ids i d l)
      (puts_as (sym (append_assoc (stmt_text (stmt_in (1 + n) (stmt (get_or ids i d)))) (stmts_text (stmts_in (1 + n) (statements_of at stmt (drop (i + 1) ids)))) (Fixed t.RightBrace nowhere ∷ []))) (puts_both p r)))

  pub end_of_block : {s m u : State} {all_sound : Bool} {all : List Token} (ids : List StmtId) (i : ℕ) → length ids ≤ i
      → Left names s all_sound all m (are_sound_stmts (1 + n) (statements_of at stmt (drop i ids))) (rest_of_block n (statements_of at stmt (drop i ids)))
      → Puts true names m u (Fixed t.RightBrace nowhere ∷ []) → Puts all_sound names s u all
  end_of_block {u = u} ids i l left p = left u (rw (statements_of-end at stmt ids i l) p)
