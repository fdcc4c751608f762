-- The table counts the nest of a program.
use Rattle.std.proofs.Common.{◌≡◌, ℕ, ◌+◌, true, List, [], ◌∷◌, ◌++◌, map, Option, Some, None, cond, nat_lt, refl, sym, ◌∙◌, ap, append_assoc}
use Rattle.grammar_core.specs.Table.{advance, expected, accepts, may_stop, then_maybe, some_passes}
use Rattle.silq_tree.specs.declared.node.Spot.{Spot}
use Rattle.silq_tree.specs.declared.node.UpdateOp.{UpdateOp}
use Rattle.silq_tree.specs.declared.node.UpdateOp.TheVariants as updates
use Rattle.silq_grammar.specs.Tokens.{Token, Name, Number, Fixed, kind}
use Rattle.silq_grammar.specs.declared.token.Terminal.TheVariants as t
use Rattle.silq_grammar.specs.Grammar as g
use Rattle.silq_grammar.specs.Grammar.{Comparison, equal, not_equal, below, at_most, above, at_least, Expr, one_and, or, And, one_cmp, and, Cmp, one_sum, compare, Sum, one_prod, plus, minus, Prod, one_unary, times, over, Unary, bang, negative, number, typed_number, true_, false_, pi, place, called, paren, Scalar, bit, uint, int, Place, whole, part, part_of_part, Call, plain, with_statics, Args, no_args, args, Exprs, last, and_more, NameList, last_name, and_names, Stmt, assign, spread, update, forget, forget_as, phase, choose, loop, return_nothing, return_value, call, Choice, only, either, chain, Block, braces, Stmts, none, more, Size, no_size, number_size, named_size, paren_size, Type_, quantum, classical, Result, last_type, and_types, Param, moved, held, last_param, and_params, Statics, last_static, and_statics, no_statics, statics, no_params, params, no_mark, lifted, qfree, mfree, no_result, results, Function, def, Program, no_function, function_then}
use Rattle.silq_grammar.specs.Spelled.{update_sign, expr_text, scalar_text, place_text, call_text, args_text, exprs_text, names_text, stmt_text, choice_text, block_text, stmts_text, size_text, type_text, result_text, param_text, params_text, statics_text, static_part_text, param_part_text, mark_text, result_part_text, function_text, program_text}
use Rattle.silq_grammar.specs.Nest.{expr_nests, scalar_nests, place_nests, call_nests, args_nests, exprs_nests, names_nests, stmt_nests, choice_nests, block_nests, stmts_nests, size_nests, type_nests, result_nests, param_nests, params_nests, statics_nests, static_part_nests, param_part_nests, mark_nests, result_part_nests, function_nests, program_nests, first_deep}
use Rattle.silq_grammar.specs.Machine.{table, nest, an_expr, Symbol, Expect, AnyName, Closing, Ends, Functions, StaticPart, MoreStatics, ParamPart, Params, OneParam, MoreParams, MarkPart, ResultPart, MoreResults, AType, AScalar, SizePart, ABlock, Statements, MoreNames, ReturnValue, ElseRest, ElseBody, StartName, StartBracket, StartIndex, Assigns, CallPart}
use Rattle.silq_grammar.specs.Outcome.{Deep, outcome, outcome_at, program_outcome}
use Rattle.silq_grammar.proofs.TakenExpr.{Off, NotBegun, not_ends, Starts, start_expr}
use Rattle.silq_grammar.proofs.Taken.{value_sign, behind_if, choice_begins, off_block, off_block_then, not_else, not_statement, off_else, not_result}
use Rattle.silq_grammar.proofs.Accepted.{program_accepted}
use Rattle.silq_grammar.proofs.NestsExpr.{depth, nest_is, nests, nests_at, pass, both, nest_scalar, nest_args, nest_expr, nest_exprs}

nest_names : (ns : NameList) (k : List Symbol) (ts : List Token) (ms : List ℕ) → NotBegun MoreNames ts → nests k ts ≡ ms
    → nests (AnyName ∷ MoreNames ∷ k) (names_text ns ++ ts) ≡ names_nests (depth k) ns ++ ms
nest_names (last_name x s) k ts ms o e = ap (λ w. depth k ∷ w) (pass MoreNames k ts refl o ∙ e)
nest_names (and_names x s c ns) k ts ms o e = ap (λ w. depth k ∷ depth k ∷ w) (nest_names ns k ts ms o e)

value_at_name : (o : Option UpdateOp) (s : Spot) (k : List Symbol) (ts : List Token)
    → nests (StartName ∷ k) (Fixed (value_sign o) s ∷ ts) ≡ depth k ∷ nests (an_expr (Expect t.Semicolon ∷ k)) ts
value_at_name None s k ts = refl
value_at_name (Some updates.Add) s k ts = refl
value_at_name (Some updates.Sub) s k ts = refl
value_at_name (Some updates.Xor) s k ts = refl

value_at_index : (o : Option UpdateOp) (s : Spot) (k : List Symbol) (ts : List Token)
    → nests (StartIndex ∷ k) (Fixed (value_sign o) s ∷ ts) ≡ depth k ∷ nests (an_expr (Expect t.Semicolon ∷ k)) ts
value_at_index None s k ts = refl
value_at_index (Some updates.Add) s k ts = refl
value_at_index (Some updates.Sub) s k ts = refl
value_at_index (Some updates.Xor) s k ts = refl

value_at_assigns : (o : Option UpdateOp) (s : Spot) (k : List Symbol) (ts : List Token)
    → nests (Assigns ∷ k) (Fixed (value_sign o) s ∷ ts) ≡ depth k ∷ nests (an_expr (Expect t.Semicolon ∷ k)) ts
value_at_assigns None s k ts = refl
value_at_assigns (Some updates.Add) s k ts = refl
value_at_assigns (Some updates.Sub) s k ts = refl
value_at_assigns (Some updates.Xor) s k ts = refl

nest_target : (o : Option UpdateOp) (p : Place) (s : Spot) (k : List Symbol) (ts : List Token) (ms : List ℕ)
    → nests (an_expr (Expect t.Semicolon ∷ Statements ∷ k)) ts ≡ ms
    → nests (Statements ∷ k) (place_text p ++ (Fixed (value_sign o) s ∷ ts)) ≡ place_nests (depth k) p ++ (depth k ∷ ms)
nest_target o (whole x a) s k ts ms e = ap (λ w. depth k ∷ w) (value_at_name o s (Statements ∷ k) ts ∙ ap (λ w. depth k ∷ w) e)
nest_target o (part x a l i r) s k ts ms e =
    let n = depth k in
    let sign = Fixed (value_sign o) s in
    ap (λ w. n ∷ (1 + n) ∷ w) (both _ (expr_text i) (Fixed t.RightBracket r ∷ []) (sign ∷ ts) (expr_nests (1 + n) i) (n ∷ []) (n ∷ ms)
    (nest_expr i (StartBracket ∷ Statements ∷ k) (Fixed t.RightBracket r ∷ sign ∷ ts) (n ∷ n ∷ ms) refl
    (ap (λ w. n ∷ w) (value_at_index o s (Statements ∷ k) ts ∙ ap (λ w. n ∷ w) e))))
nest_target o (part_of_part x a l i r m j q) s k ts ms e =
    let n = depth k in
    let sign = Fixed (value_sign o) s in
    ap (λ w. n ∷ (1 + n) ∷ w)
    (both _ (expr_text i) (Fixed t.RightBracket r ∷ Fixed t.LeftBracket m ∷ (expr_text j ++ (Fixed t.RightBracket q ∷ []))) (sign ∷ ts)
    (expr_nests (1 + n) i) (n ∷ (1 + n) ∷ (expr_nests (1 + n) j ++ (n ∷ []))) (n ∷ ms)
    (nest_expr i (StartBracket ∷ Statements ∷ k) (Fixed t.RightBracket r ∷ Fixed t.LeftBracket m ∷ ((expr_text j ++ (Fixed t.RightBracket q ∷ [])) ++ (sign ∷ ts)))
    (n ∷ (1 + n) ∷ ((expr_nests (1 + n) j ++ (n ∷ [])) ++ (n ∷ ms))) refl
    (ap (λ w. n ∷ (1 + n) ∷ w) (both _ (expr_text j) (Fixed t.RightBracket q ∷ []) (sign ∷ ts) (expr_nests (1 + n) j) (n ∷ []) (n ∷ ms)
    (nest_expr j (Closing t.RightBracket ∷ Assigns ∷ Statements ∷ k) (Fixed t.RightBracket q ∷ sign ∷ ts) (n ∷ n ∷ ms) refl
    (ap (λ w. n ∷ w) (value_at_assigns o s (Statements ∷ k) ts ∙ ap (λ w. n ∷ w) e)))))))

nest_value : (x : Expr) (end : Spot) (k : List Symbol) (ts : List Token) (ms : List ℕ) → nests k ts ≡ ms
    → nests (an_expr (Expect t.Semicolon ∷ k)) ((expr_text x ++ (Fixed t.Semicolon end ∷ [])) ++ ts) ≡ (expr_nests (depth k) x ++ (depth k ∷ [])) ++ ms
nest_value x end k ts ms e =
    both _ (expr_text x) (Fixed t.Semicolon end ∷ []) ts (expr_nests (depth k) x) (depth k ∷ []) ms
    (nest_expr x (Expect t.Semicolon ∷ k) (Fixed t.Semicolon end ∷ ts) (depth k ∷ ms) refl (ap (λ w. depth k ∷ w) e))

nest_call_statement : (c : Call) (end : Spot) (k : List Symbol) (ts : List Token) (ms : List ℕ) → nests (Statements ∷ k) ts ≡ ms
    → nests (Statements ∷ k) (call_text c ++ (Fixed t.Semicolon end ∷ ts)) ≡ call_nests (depth k) c ++ (depth k ∷ ms)
nest_call_statement (plain x s l a r) end k ts ms e =
    let n = depth k in
    let behind = Fixed t.Semicolon end ∷ ts in
    ap (λ w. n ∷ (1 + n) ∷ w) (both _ (args_text a) (Fixed t.RightParen r ∷ []) behind (args_nests (1 + n) a) (n ∷ []) (n ∷ ms)
    (nest_args a (Expect t.Semicolon ∷ Statements ∷ k) r behind (n ∷ ms) (ap (λ w. n ∷ w) e)))
nest_call_statement (with_statics x s l (last i) r m a q) end k ts ms e =
    let n = depth k in
    let behind = Fixed t.Semicolon end ∷ ts in
    ap (λ w. n ∷ (1 + n) ∷ w)
    (both _ (expr_text i) (Fixed t.RightBracket r ∷ Fixed t.LeftParen m ∷ (args_text a ++ (Fixed t.RightParen q ∷ []))) behind
    (expr_nests (1 + n) i) (n ∷ (1 + n) ∷ (args_nests (1 + n) a ++ (n ∷ []))) (n ∷ ms)
    (nest_expr i (StartBracket ∷ Statements ∷ k) (Fixed t.RightBracket r ∷ Fixed t.LeftParen m ∷ ((args_text a ++ (Fixed t.RightParen q ∷ [])) ++ behind))
    (n ∷ (1 + n) ∷ ((args_nests (1 + n) a ++ (n ∷ [])) ++ (n ∷ ms))) refl
    (ap (λ w. n ∷ (1 + n) ∷ w) (both _ (args_text a) (Fixed t.RightParen q ∷ []) behind (args_nests (1 + n) a) (n ∷ []) (n ∷ ms)
    (nest_args a (Expect t.Semicolon ∷ Statements ∷ k) q behind (n ∷ ms) (ap (λ w. n ∷ w) e))))))
nest_call_statement (with_statics x s l (and_more i c es) r m a q) end k ts ms e =
    let n = depth k in
    let behind = Fixed t.Semicolon end ∷ ts in
    let tail = Fixed t.RightBracket r ∷ Fixed t.LeftParen m ∷ (args_text a ++ (Fixed t.RightParen q ∷ [])) in
    let counts = n ∷ (1 + n) ∷ (args_nests (1 + n) a ++ (n ∷ [])) in
    ap (λ w. n ∷ (1 + n) ∷ w)
    (both _ (expr_text i ++ (Fixed t.Comma c ∷ exprs_text es)) tail behind (expr_nests (1 + n) i ++ ((1 + n) ∷ exprs_nests (1 + n) es)) counts (n ∷ ms)
    (both _ (expr_text i) (Fixed t.Comma c ∷ exprs_text es) (tail ++ behind) (expr_nests (1 + n) i) ((1 + n) ∷ exprs_nests (1 + n) es) (counts ++ (n ∷ ms))
    (nest_expr i (StartBracket ∷ Statements ∷ k) (Fixed t.Comma c ∷ (exprs_text es ++ (tail ++ behind))) ((1 + n) ∷ (exprs_nests (1 + n) es ++ (counts ++ (n ∷ ms)))) refl
    (ap (λ w. (1 + n) ∷ w) (nest_exprs es (Closing t.RightBracket ∷ CallPart ∷ Expect t.Semicolon ∷ Statements ∷ k) (tail ++ behind) (counts ++ (n ∷ ms)) refl
    (ap (λ w. n ∷ (1 + n) ∷ w) (both _ (args_text a) (Fixed t.RightParen q ∷ []) behind (args_nests (1 + n) a) (n ∷ []) (n ∷ ms)
    (nest_args a (Expect t.Semicolon ∷ Statements ∷ k) q behind (n ∷ ms) (ap (λ w. n ∷ w) e)))))))))

same_return : (k : List Symbol) (ts : List Token) → Starts ts → nests (ReturnValue ∷ k) ts ≡ nests (an_expr k) ts
same_return k [] h = absurd h
same_return k (Name n s ∷ ts) h = refl
same_return k (Number v s ∷ ts) h = refl
same_return k (Fixed t.True s ∷ ts) h = refl
same_return k (Fixed t.False s ∷ ts) h = refl
same_return k (Fixed t.Pi s ∷ ts) h = refl
same_return k (Fixed t.LeftParen s ∷ ts) h = refl
same_return k (Fixed t.Bang s ∷ ts) h = refl
same_return k (Fixed t.Minus s ∷ ts) h = refl
same_return k (Fixed _ s ∷ ts) h = absurd h

-- the nests of a choice behind its first `if`
abbrev nests_behind_if : ℕ → Choice → List ℕ
nests_behind_if n (only s e b) = expr_nests n e ++ block_nests n b
nests_behind_if n (either s e b o d) = expr_nests n e ++ (block_nests n b ++ (n ∷ block_nests n d))
nests_behind_if n (chain s e b o c) = expr_nests n e ++ (block_nests n b ++ (n ∷ choice_nests (1 + n) c))

choice_counts : (n : ℕ) (c : Choice) → choice_nests n c ≡ n ∷ nests_behind_if n c
choice_counts n (only s e b) = refl
choice_counts n (either s e b o d) = refl
choice_counts n (chain s e b o c) = refl

mutual
  nest_stmt : (x : Stmt) (k : List Symbol) (ts : List Token) (ms : List ℕ) → NotBegun ElseRest ts → nests (Statements ∷ k) ts ≡ ms
      → nests (Statements ∷ k) (stmt_text x ++ ts) ≡ stmt_nests (depth k) x ++ ms
  nest_stmt (assign p s x end) k ts ms o e =
      let n = depth k in
      both _ (place_text p) (Fixed t.Becomes s ∷ (expr_text x ++ (Fixed t.Semicolon end ∷ []))) ts (place_nests n p) (n ∷ (expr_nests n x ++ (n ∷ []))) ms
      (nest_target None p s k ((expr_text x ++ (Fixed t.Semicolon end ∷ [])) ++ ts) ((expr_nests n x ++ (n ∷ [])) ++ ms) (nest_value x end (Statements ∷ k) ts ms e))
  nest_stmt (update op p s x end) k ts ms o e =
      let n = depth k in
      both _ (place_text p) (Fixed (update_sign op) s ∷ (expr_text x ++ (Fixed t.Semicolon end ∷ []))) ts (place_nests n p) (n ∷ (expr_nests n x ++ (n ∷ []))) ms
      (nest_target (Some op) p s k ((expr_text x ++ (Fixed t.Semicolon end ∷ [])) ++ ts) ((expr_nests n x ++ (n ∷ [])) ++ ms) (nest_value x end (Statements ∷ k) ts ms e))
  nest_stmt (spread l x a c ns r s y end) k ts ms o e =
      let n = depth k in
      let rest = (expr_text y ++ (Fixed t.Semicolon end ∷ [])) ++ ts in
      ap (λ w. (1 + n) ∷ (1 + n) ∷ (1 + n) ∷ w)
      (both _ (names_text ns) (Fixed t.RightParen r ∷ Fixed t.Becomes s ∷ (expr_text y ++ (Fixed t.Semicolon end ∷ []))) ts
      (names_nests (1 + n) ns) (n ∷ n ∷ (expr_nests n y ++ (n ∷ []))) ms
      (nest_names ns (Closing t.RightParen ∷ Expect t.Becomes ∷ an_expr (Expect t.Semicolon ∷ Statements ∷ k)) (Fixed t.RightParen r ∷ Fixed t.Becomes s ∷ rest)
      (n ∷ n ∷ ((expr_nests n y ++ (n ∷ [])) ++ ms)) refl
      (ap (λ w. n ∷ n ∷ w) (nest_value y end (Statements ∷ k) ts ms e))))
  nest_stmt (forget s l x a r end) k ts ms o e = let n = depth k in ap (λ w. n ∷ (1 + n) ∷ (1 + n) ∷ n ∷ n ∷ w) e
  nest_stmt (forget_as s l x a i y r end) k ts ms o e =
      let n = depth k in
      ap (λ w. n ∷ (1 + n) ∷ (1 + n) ∷ (1 + n) ∷ w)
      (both _ (expr_text y) (Fixed t.RightParen r ∷ Fixed t.Semicolon end ∷ []) ts (expr_nests (1 + n) y) (n ∷ n ∷ []) ms
      (nest_expr y (Closing t.RightParen ∷ Expect t.Semicolon ∷ Statements ∷ k) (Fixed t.RightParen r ∷ Fixed t.Semicolon end ∷ ts) (n ∷ n ∷ ms) refl
      (ap (λ w. n ∷ n ∷ w) e)))
  nest_stmt (phase s l y r end) k ts ms o e =
      let n = depth k in
      ap (λ w. n ∷ (1 + n) ∷ w)
      (both _ (expr_text y) (Fixed t.RightParen r ∷ Fixed t.Semicolon end ∷ []) ts (expr_nests (1 + n) y) (n ∷ n ∷ []) ms
      (nest_expr y (Closing t.RightParen ∷ Expect t.Semicolon ∷ Statements ∷ k) (Fixed t.RightParen r ∷ Fixed t.Semicolon end ∷ ts) (n ∷ n ∷ ms) refl
      (ap (λ w. n ∷ n ∷ w) e)))
  nest_stmt (choose c) k ts ms o e =
      ap (λ w. nests (Statements ∷ k) (w ++ ts)) (choice_begins c)
      ∙ ap (λ w. depth k ∷ w) (nest_choice c (Statements ∷ k) ts ms o e)
      ∙ sym (ap (λ w. w ++ ms) (choice_counts (depth k) c))
  nest_stmt (loop s x a i l y d j r b) k ts ms o e =
      let n = depth k in
      let behind = Closing t.RightParen ∷ ABlock ∷ Statements ∷ k in
      ap (λ w. n ∷ n ∷ n ∷ (1 + n) ∷ w)
      (both _ (expr_text y) (Fixed t.Dots d ∷ (expr_text j ++ (Fixed t.RightParen r ∷ block_text b))) ts
      (expr_nests (1 + n) y) ((1 + n) ∷ (expr_nests (1 + n) j ++ (n ∷ block_nests n b))) ms
      (nest_expr y (Expect t.Dots ∷ an_expr behind) (Fixed t.Dots d ∷ ((expr_text j ++ (Fixed t.RightParen r ∷ block_text b)) ++ ts))
      ((1 + n) ∷ ((expr_nests (1 + n) j ++ (n ∷ block_nests n b)) ++ ms)) refl
      (ap (λ w. (1 + n) ∷ w) (both _ (expr_text j) (Fixed t.RightParen r ∷ block_text b) ts (expr_nests (1 + n) j) (n ∷ block_nests n b) ms
      (nest_expr j behind (Fixed t.RightParen r ∷ (block_text b ++ ts)) (n ∷ (block_nests n b ++ ms)) refl
      (ap (λ w. n ∷ w) (nest_block b (Statements ∷ k) ts ms e)))))))
  nest_stmt (return_nothing s end) k ts ms o e = ap (λ w. depth k ∷ depth k ∷ w) e
  nest_stmt (return_value s y end) k ts ms o e =
      ap (λ w. depth k ∷ w)
      (same_return (Expect t.Semicolon ∷ Statements ∷ k) ((expr_text y ++ (Fixed t.Semicolon end ∷ [])) ++ ts) (rw append_assoc (start_expr y (Fixed t.Semicolon end ∷ ts)))
      ∙ nest_value y end (Statements ∷ k) ts ms e)
  nest_stmt (call c end) k ts ms o e =
      both _ (call_text c) (Fixed t.Semicolon end ∷ []) ts (call_nests (depth k) c) (depth k ∷ []) ms (nest_call_statement c end k ts ms e)

  nest_choice : (c : Choice) (k : List Symbol) (ts : List Token) (ms : List ℕ) → NotBegun ElseRest ts → nests k ts ≡ ms
      → nests (an_expr (ABlock ∷ ElseRest ∷ k)) (behind_if c ++ ts) ≡ nests_behind_if (depth k) c ++ ms
  nest_choice (only s x b) k ts ms o e =
      let n = depth k in
      both _ (expr_text x) (block_text b) ts (expr_nests n x) (block_nests n b) ms
      (nest_expr x (ABlock ∷ ElseRest ∷ k) (block_text b ++ ts) (block_nests n b ++ ms) (off_block b ts)
      (nest_block b (ElseRest ∷ k) ts ms (pass ElseRest k ts refl o ∙ e)))
  nest_choice (either s x b w d) k ts ms o e =
      let n = depth k in
      let tail = Fixed t.Else w ∷ block_text d in
      both _ (expr_text x) (block_text b ++ tail) ts (expr_nests n x) (block_nests n b ++ (n ∷ block_nests n d)) ms
      (nest_expr x (ABlock ∷ ElseRest ∷ k) ((block_text b ++ tail) ++ ts) ((block_nests n b ++ (n ∷ block_nests n d)) ++ ms) (off_block_then b tail ts)
      (both _ (block_text b) tail ts (block_nests n b) (n ∷ block_nests n d) ms
      (nest_block b (ElseRest ∷ k) (tail ++ ts) (n ∷ (block_nests n d ++ ms))
      (ap (λ w. n ∷ w) (nest_else_block d k ts ms e)))))
  nest_choice (chain s x b w c) k ts ms o e =
      let n = depth k in
      let tail = Fixed t.Else w ∷ choice_text c in
      both _ (expr_text x) (block_text b ++ tail) ts (expr_nests n x) (block_nests n b ++ (n ∷ choice_nests (1 + n) c)) ms
      (nest_expr x (ABlock ∷ ElseRest ∷ k) ((block_text b ++ tail) ++ ts) ((block_nests n b ++ (n ∷ choice_nests (1 + n) c)) ++ ms) (off_block_then b tail ts)
      (both _ (block_text b) tail ts (block_nests n b) (n ∷ choice_nests (1 + n) c) ms
      (nest_block b (ElseRest ∷ k) (tail ++ ts) (n ∷ (choice_nests (1 + n) c ++ ms))
      (ap (λ v. n ∷ v) (ap (λ v. nests (ElseBody ∷ k) (v ++ ts)) (choice_begins c)
      ∙ ap (λ v. (1 + n) ∷ v) (nest_choice c (Ends ∷ k) ts ms o (pass Ends k ts refl (not_ends ts) ∙ e))
      ∙ sym (ap (λ v. v ++ ms) (choice_counts (1 + n) c)))))))

  nest_else_block : (d : Block) (k : List Symbol) (ts : List Token) (ms : List ℕ) → nests k ts ≡ ms
      → nests (ElseBody ∷ k) (block_text d ++ ts) ≡ block_nests (depth k) d ++ ms
  nest_else_block (braces l d r) k ts ms e =
      let n = depth k in
      ap (λ w. (1 + n) ∷ w) (both _ (stmts_text d) (Fixed t.RightBrace r ∷ []) ts (stmts_nests (1 + n) d) (n ∷ []) ms
      (nest_stmts d (Closing t.RightBrace ∷ k) (Fixed t.RightBrace r ∷ ts) (n ∷ ms) refl (ap (λ w. n ∷ w) e)))

  nest_block : (b : Block) (k : List Symbol) (ts : List Token) (ms : List ℕ) → nests k ts ≡ ms
      → nests (ABlock ∷ k) (block_text b ++ ts) ≡ block_nests (depth k) b ++ ms
  nest_block (braces l b r) k ts ms e =
      let n = depth k in
      ap (λ w. (1 + n) ∷ w) (both _ (stmts_text b) (Fixed t.RightBrace r ∷ []) ts (stmts_nests (1 + n) b) (n ∷ []) ms
      (nest_stmts b (Closing t.RightBrace ∷ k) (Fixed t.RightBrace r ∷ ts) (n ∷ ms) refl (ap (λ w. n ∷ w) e)))

  nest_stmts : (b : Stmts) (k : List Symbol) (ts : List Token) (ms : List ℕ) → Off Statements ts → nests k ts ≡ ms
      → nests (Statements ∷ k) (stmts_text b ++ ts) ≡ stmts_nests (depth k) b ++ ms
  nest_stmts none k ts ms o e = pass Statements k ts refl (not_statement ts o) ∙ e
  nest_stmts (more x b) k ts ms o e =
      both _ (stmt_text x) (stmts_text b) ts (stmt_nests (depth k) x) (stmts_nests (depth k) b) ms
      (nest_stmt x k (stmts_text b ++ ts) (stmts_nests (depth k) b ++ ms) (not_else b ts (off_else ts o)) (nest_stmts b k ts ms o e))

nest_size : (x : Size) (k : List Symbol) (ts : List Token) (ms : List ℕ) → NotBegun SizePart ts → nests k ts ≡ ms
    → nests (SizePart ∷ k) (size_text x ++ ts) ≡ size_nests (depth k) x ++ ms
nest_size no_size k ts ms o e = pass SizePart k ts refl o ∙ e
nest_size (number_size c v s) k ts ms o e = ap (λ w. depth k ∷ depth k ∷ w) e
nest_size (named_size c x s) k ts ms o e = ap (λ w. depth k ∷ depth k ∷ w) e
nest_size (paren_size c l y r) k ts ms o e =
    let n = depth k in
    ap (λ w. n ∷ (1 + n) ∷ w) (both _ (expr_text y) (Fixed t.RightParen r ∷ []) ts (expr_nests (1 + n) y) (n ∷ []) ms
    (nest_expr y (Closing t.RightParen ∷ k) (Fixed t.RightParen r ∷ ts) (n ∷ ms) refl (ap (λ w. n ∷ w) e)))

same_type : (ty : Scalar) (k : List Symbol) (ts : List Token) → nests (AType ∷ k) (scalar_text ty ++ ts) ≡ nests (AScalar ∷ SizePart ∷ k) (scalar_text ty ++ ts)
same_type (bit s) k ts = refl
same_type (uint s l e r) k ts = refl
same_type (int s l e r) k ts = refl

nest_type : (ty : Type_) (k : List Symbol) (ts : List Token) (ms : List ℕ) → NotBegun SizePart ts → nests k ts ≡ ms
    → nests (AType ∷ k) (type_text ty ++ ts) ≡ type_nests (depth k) ty ++ ms
nest_type (quantum ty x) k ts ms o e =
    let n = depth k in
    both _ (scalar_text ty) (size_text x) ts (scalar_nests n ty) (size_nests n x) ms
    (same_type ty k (size_text x ++ ts) ∙ nest_scalar ty (SizePart ∷ k) (size_text x ++ ts) (size_nests n x ++ ms) (nest_size x k ts ms o e))
nest_type (classical s ty x) k ts ms o e =
    let n = depth k in
    ap (λ w. n ∷ w) (both _ (scalar_text ty) (size_text x) ts (scalar_nests n ty) (size_nests n x) ms
    (nest_scalar ty (SizePart ∷ k) (size_text x ++ ts) (size_nests n x ++ ms) (nest_size x k ts ms o e)))

nest_result : (a : Result) (k : List Symbol) (ts : List Token) (ms : List ℕ) → NotBegun SizePart ts → NotBegun MoreResults ts → nests k ts ≡ ms
    → nests (AType ∷ MoreResults ∷ k) (result_text a ++ ts) ≡ result_nests (depth k) a ++ ms
nest_result (last_type ty) k ts ms o m e = nest_type ty (MoreResults ∷ k) ts ms o (pass MoreResults k ts refl m ∙ e)
nest_result (and_types ty s a) k ts ms o m e =
    let n = depth k in
    both _ (type_text ty) (Fixed t.Times s ∷ result_text a) ts (type_nests n ty) (n ∷ result_nests n a) ms
    (nest_type ty (MoreResults ∷ k) (Fixed t.Times s ∷ (result_text a ++ ts)) (n ∷ (result_nests n a ++ ms)) refl
    (ap (λ w. n ∷ w) (nest_result a k ts ms o m e)))

nest_param : (p : Param) (k : List Symbol) (ts : List Token) (ms : List ℕ) → NotBegun SizePart ts → nests k ts ≡ ms
    → nests (OneParam ∷ k) (param_text p ++ ts) ≡ param_nests (depth k) p ++ ms
nest_param (moved x s c ty) k ts ms o e = ap (λ w. depth k ∷ depth k ∷ w) (nest_type ty k ts ms o e)
nest_param (held d x s c ty) k ts ms o e = ap (λ w. depth k ∷ depth k ∷ depth k ∷ w) (nest_type ty k ts ms o e)

nest_params : (ps : g.Params) (k : List Symbol) (ts : List Token) (ms : List ℕ) → NotBegun SizePart ts → NotBegun MoreParams ts → nests k ts ≡ ms
    → nests (OneParam ∷ MoreParams ∷ k) (params_text ps ++ ts) ≡ params_nests (depth k) ps ++ ms
nest_params (last_param p) k ts ms o m e = nest_param p (MoreParams ∷ k) ts ms o (pass MoreParams k ts refl m ∙ e)
nest_params (and_params p s ps) k ts ms o m e =
    let n = depth k in
    both _ (param_text p) (Fixed t.Comma s ∷ params_text ps) ts (param_nests n p) (n ∷ params_nests n ps) ms
    (nest_param p (MoreParams ∷ k) (Fixed t.Comma s ∷ (params_text ps ++ ts)) (n ∷ (params_nests n ps ++ ms)) refl
    (ap (λ w. n ∷ w) (nest_params ps k ts ms o m e)))

same_params : (ps : g.Params) (k : List Symbol) (ts : List Token) → nests (Params ∷ k) (params_text ps ++ ts) ≡ nests (OneParam ∷ MoreParams ∷ k) (params_text ps ++ ts)
same_params (last_param (moved x s c ty)) k ts = refl
same_params (last_param (held d x s c ty)) k ts = refl
same_params (and_params (moved x s c ty) w ps) k ts = refl
same_params (and_params (held d x s c ty) w ps) k ts = refl

-- what is expected behind the parts of a function

abbrev behind_params : List Symbol
behind_params = MarkPart ∷ ResultPart ∷ ABlock ∷ Functions ∷ []

nest_param_part : (p : g.ParamPart) (ts : List Token) (ms : List ℕ) → nests behind_params ts ≡ ms
    → nests (ParamPart ∷ behind_params) (param_part_text p ++ ts) ≡ param_part_nests p ++ ms
nest_param_part (no_params l r) ts ms e = ap (λ w. 1 ∷ 0 ∷ w) e
nest_param_part (params l ps r) ts ms e =
    let behind = Closing t.RightParen ∷ behind_params in
    ap (λ w. 1 ∷ w) (both _ (params_text ps) (Fixed t.RightParen r ∷ []) ts (params_nests 1 ps) (0 ∷ []) ms
    (same_params ps behind (Fixed t.RightParen r ∷ ts)
    ∙ nest_params ps behind (Fixed t.RightParen r ∷ ts) (0 ∷ ms) refl refl (ap (λ w. 0 ∷ w) e)))

nest_statics : (ns : Statics) (k : List Symbol) (ts : List Token) (ms : List ℕ) → NotBegun MoreStatics ts → nests k ts ≡ ms
    → nests (AnyName ∷ Expect t.Colon ∷ Expect t.Bang ∷ Expect t.Natural ∷ MoreStatics ∷ k) (statics_text ns ++ ts) ≡ statics_nests (depth k) ns ++ ms
nest_statics (last_static x s c b d) k ts ms o e = let n = depth k in ap (λ w. n ∷ n ∷ n ∷ n ∷ w) (pass MoreStatics k ts refl o ∙ e)
nest_statics (and_statics x s c b d m ns) k ts ms o e = let n = depth k in ap (λ w. n ∷ n ∷ n ∷ n ∷ n ∷ w) (nest_statics ns k ts ms o e)

nest_static_part : (p : g.StaticPart) (ts : List Token) (ms : List ℕ) → NotBegun StaticPart ts → nests (ParamPart ∷ behind_params) ts ≡ ms
    → nests (StaticPart ∷ ParamPart ∷ behind_params) (static_part_text p ++ ts) ≡ static_part_nests p ++ ms
nest_static_part no_statics ts ms o e = pass StaticPart (ParamPart ∷ behind_params) ts refl o ∙ e
nest_static_part (statics l ns r) ts ms o e =
    ap (λ w. 1 ∷ w) (both _ (statics_text ns) (Fixed t.RightBracket r ∷ []) ts (statics_nests 1 ns) (0 ∷ []) ms
    (nest_statics ns (Closing t.RightBracket ∷ ParamPart ∷ behind_params) (Fixed t.RightBracket r ∷ ts) (0 ∷ ms) refl (ap (λ w. 0 ∷ w) e)))

nest_mark : (m : g.MarkPart) (ts : List Token) (ms : List ℕ) → NotBegun MarkPart ts → nests (ResultPart ∷ ABlock ∷ Functions ∷ []) ts ≡ ms
    → nests behind_params (mark_text m ++ ts) ≡ mark_nests m ++ ms
nest_mark no_mark ts ms o e = pass MarkPart (ResultPart ∷ ABlock ∷ Functions ∷ []) ts refl o ∙ e
nest_mark (lifted s) ts ms o e = ap (λ w. 0 ∷ w) e
nest_mark (qfree s) ts ms o e = ap (λ w. 0 ∷ w) e
nest_mark (mfree s) ts ms o e = ap (λ w. 0 ∷ w) e

nest_result_part : (a : g.ResultPart) (b : Block) (ts : List Token) (ms : List ℕ) → nests (ABlock ∷ Functions ∷ []) (block_text b ++ ts) ≡ ms
    → nests (ResultPart ∷ ABlock ∷ Functions ∷ []) (result_part_text a ++ (block_text b ++ ts)) ≡ result_part_nests a ++ ms
nest_result_part no_result b ts ms e = pass ResultPart (ABlock ∷ Functions ∷ []) (block_text b ++ ts) refl (not_result b ts) ∙ e
nest_result_part (results s a) (braces l b r) ts ms e = ap (λ w. 0 ∷ w) (nest_result a (ABlock ∷ Functions ∷ []) (block_text (braces l b r) ++ ts) ms refl refl e)

nest_function : (h : Function) (ts : List Token) (ms : List ℕ) → nests (Functions ∷ []) ts ≡ ms → nests (Functions ∷ []) (function_text h ++ ts) ≡ function_nests h ++ ms
nest_function (def s x a ss ps m r b) ts ms e =
    let c3 = result_part_nests r ++ block_nests 0 b in
    let c2 = mark_nests m ++ c3 in
    let c1 = param_part_nests ps ++ c2 in
    let t3 = result_part_text r ++ block_text b in
    let t2 = mark_text m ++ t3 in
    let t1 = param_part_text ps ++ t2 in
    let last_part : nests (ResultPart ∷ ABlock ∷ Functions ∷ []) (t3 ++ ts) ≡ c3 ++ ms =
    both _ (result_part_text r) (block_text b) ts (result_part_nests r) (block_nests 0 b) ms (nest_result_part r b ts (block_nests 0 b ++ ms) (nest_block b (Functions ∷ []) ts ms e)) in
    let marked : nests behind_params (t2 ++ ts) ≡ c2 ++ ms =
    both _ (mark_text m) t3 ts (mark_nests m) c3 ms (nest_mark m (t3 ++ ts) (c3 ++ ms) (unmarked r b ts) last_part) in
    let taken : nests (ParamPart ∷ behind_params) (t1 ++ ts) ≡ c1 ++ ms = both _ (param_part_text ps) t2 ts (param_part_nests ps) c2 ms (nest_param_part ps (t2 ++ ts) (c2 ++ ms) marked) in
    ap (λ w. 0 ∷ 0 ∷ w) (both _ (static_part_text ss) t1 ts (static_part_nests ss) c1 ms (nest_static_part ss (t1 ++ ts) (c1 ++ ms) (unstatic ps t2 ts) taken))
  where
    unmarked : (r : g.ResultPart) (b : Block) (ts : List Token) → NotBegun MarkPart ((result_part_text r ++ block_text b) ++ ts)
    unmarked no_result (braces l b q) ts = refl
    unmarked (results s y) b ts = refl

    unstatic : (p : g.ParamPart) (us ts : List Token) → NotBegun StaticPart ((param_part_text p ++ us) ++ ts)
    unstatic (no_params l q) us ts = refl
    unstatic (params l y q) us ts = refl

nest_program : (p : Program) → nests (Functions ∷ []) (program_text p) ≡ program_nests p
nest_program no_function = refl
nest_program (function_then h p) = nest_function h (program_text p) (program_nests p) (nest_program p)

-- where tokens are accepted, the outcome is told by the nests
accepted_outcome : (xs : List Symbol) (ts : List Token) → accepts table xs (map kind ts) ≡ true → outcome xs ts ≡ first_deep (nests xs ts) ts
unfolding outcome
accepted_outcome xs [] a = rw a refl
accepted_outcome xs (w ∷ ts) a = at_step (advance table xs (kind w)) (λ ys. accepted_outcome ys ts) a
  where
    at_step : (o : Option (List Symbol)) → ((ys : List Symbol) → accepts table ys (map kind ts) ≡ true → outcome ys ts ≡ first_deep (nests ys ts) ts)
        → some_passes (may_stop table) (then_maybe o (λ ys. expected table ys (map kind ts))) ≡ true
        → outcome_at o (w ∷ ts) (λ ys. outcome ys ts) ≡ first_deep (nests_at o (λ ys. nests ys ts)) (w ∷ ts)
    at_step None ih e = cc
    at_step (Some ys) ih e = ap (λ v. cond (nat_lt 64 (nest ys)) (Deep (w ∷ ts)) v) (ih ys e) ∙ ap (λ d. cond (nat_lt 64 d) (Deep (w ∷ ts)) (first_deep (nests ys ts) ts)) (nest_is ys)

-- the nest of a program's tokens decides
pub program_deep : (p : Program) → program_outcome (program_text p) ≡ first_deep (program_nests p) (program_text p)
program_deep p = accepted_outcome (Functions ∷ []) (program_text p) (program_accepted p) ∙ ap (λ ns. first_deep ns (program_text p)) (nest_program p)
