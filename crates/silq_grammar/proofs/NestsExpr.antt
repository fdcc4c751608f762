-- The table counts the nest of an expression.
use Rattle.std.proofs.Common.{◌≡◌, ℕ, zero, suc, ◌+◌, Bool, true, false, List, [], ◌∷◌, ◌++◌, Option, Some, None, cond, refl, sym, ◌∙◌, ap, append_assoc, arith}
use Rattle.grammar_core.specs.Table.{advance, first_of}
use Rattle.silq_tree.specs.declared.node.Spot.{Spot}
use Rattle.silq_grammar.specs.Tokens.{Token, Name, Number, Fixed, kind}
use Rattle.silq_grammar.specs.declared.token.Terminal.TheVariants as t
use Rattle.silq_grammar.specs.Grammar.{Comparison, equal, not_equal, below, at_most, above, at_least, Expr, one_and, or, And, one_cmp, and, Cmp, one_sum, compare, Sum, one_prod, plus, minus, Prod, one_unary, times, over, Unary, bang, negative, number, typed_number, true_, false_, pi, place, called, paren, Scalar, bit, uint, int, Place, whole, part, part_of_part, Call, plain, with_statics, Args, no_args, args, Exprs, last, and_more}
use Rattle.silq_grammar.specs.Spelled.{comparison_sign, expr_text, and_text, cmp_text, sum_text, prod_text, unary_text, scalar_text, place_text, call_text, args_text, exprs_text}
use Rattle.silq_grammar.specs.Nest.{prod_count, sum_count, and_count, or_count, expr_nests, and_nests, cmp_nests, sum_nests, prod_nests, unary_nests, scalar_nests, place_nests, call_nests, args_nests, exprs_nests}
use Rattle.silq_grammar.specs.Machine.{table, begin, can_be_empty, weight, nest, an_expr, exprs, Symbol, Closing, Ends, AScalar, StartBracket, AUnary, Prods, Sums, Compare, Ands, Ors, NumberType, InName, InBracket, InIndex, CallPart, Arguments, MoreExprs}
use Rattle.silq_grammar.proofs.Reach.{is_some}
use Rattle.silq_grammar.proofs.TakenExpr.{Off, NotBegun, not_ends, Starts, start_exprs, or_left, off_and, off_cmp, off_sum, off_prod, off_unary, off_expr, no_ors, no_ands, no_compare, no_sums, no_prods, no_type, no_name, no_index, no_more, off_comparison}

-- the operators of a chain, on the nest around it
abbrev pub pick : ℕ → ℕ → ℕ
pick zero n = n
pick (suc m) n = suc m + n

-- the nest with a symbol more
abbrev pub grown : Symbol → ℕ → ℕ
grown (Closing s) n = 1 + n
grown Ends n = 1 + n
grown StartBracket n = 1 + n
grown InBracket n = 1 + n
grown (Prods m) n = pick m n
grown (Sums m) n = pick m n
grown (Ands m) n = pick m n
grown (Ors m) n = pick m n
grown _ n = n

-- the nest, with no sum where a symbol weighs nothing
abbrev pub depth : List Symbol → ℕ
depth [] = 0
depth (x ∷ xs) = grown x (depth xs)

none_added : (n : ℕ) → 0 + n ≡ n
none_added n = omega arith

pick_is : (m n : ℕ) → m + n ≡ pick m n
pick_is zero n = none_added n
pick_is (suc m) n = refl

weighs : (x : Symbol) (n : ℕ) → weight x + n ≡ grown x n
weighs (Closing s) n = refl
weighs Ends n = refl
weighs StartBracket n = refl
weighs InBracket n = refl
weighs (Prods m) n = pick_is m n
weighs (Sums m) n = pick_is m n
weighs (Ands m) n = pick_is m n
weighs (Ors m) n = pick_is m n
weighs _ n = none_added n

pub nest_is : (xs : List Symbol) → nest xs ≡ depth xs
nest_is [] = refl
nest_is (x ∷ xs) = ap (λ n. weight x + n) (nest_is xs) ∙ weighs x (depth xs)

one_more : (c n : ℕ) → pick (c + 1) n ≡ c + 1 + n
one_more c n = let e : c + 1 ≡ suc c = omega arith in rw e refl

abbrev pub nests_at : Option (List Symbol) → (List Symbol → List ℕ) → List ℕ
nests_at None go = []
nests_at (Some ys) go = depth ys ∷ go ys

-- the nest behind each token, by the table
abbrev pub nests : List Symbol → List Token → List ℕ
nests xs [] = []
nests xs (w ∷ ts) = nests_at (advance table xs (kind w)) (λ ys. nests ys ts)

-- a symbol that may be empty is passed over
pub pass : (x : Symbol) (k : List Symbol) (ts : List Token) → can_be_empty x ≡ true → NotBegun x ts → nests (x ∷ k) ts ≡ nests k ts
pass x k [] c o = refl
pass x k (w ∷ ts) c o = ap (λ q. nests_at q (λ ys. nests ys ts)) (at_first (begin x (kind w)) (can_be_empty x) o c)
  where
    at_first : (q : Option (List Symbol)) (b : Bool) → is_some q ≡ false → b ≡ true → first_of q k (cond b (advance table k (kind w)) None) ≡ advance table k (kind w)
    at_first None true h i = refl
    at_first None false h i = cc
    at_first (Some ys) b h i = cc

-- a text in two parts, with the nests of both
pub both : (xs : List Symbol) (us vs ts : List Token) (cs bs ms : List ℕ) → nests xs (us ++ (vs ++ ts)) ≡ cs ++ (bs ++ ms) → nests xs ((us ++ vs) ++ ts) ≡ (cs ++ bs) ++ ms
both xs us vs ts cs bs ms e = ap (nests xs) (append_assoc us vs ts) ∙ e ∙ sym (append_assoc cs bs ms)

same_start : (k : List Symbol) (ts : List Token) → Starts ts → nests (Arguments ∷ k) ts ≡ nests (exprs k) ts
same_start k [] h = absurd h
same_start k (Name n s ∷ ts) h = refl
same_start k (Number v s ∷ ts) h = refl
same_start k (Fixed t.True s ∷ ts) h = refl
same_start k (Fixed t.False s ∷ ts) h = refl
same_start k (Fixed t.Pi s ∷ ts) h = refl
same_start k (Fixed t.LeftParen s ∷ ts) h = refl
same_start k (Fixed t.Bang s ∷ ts) h = refl
same_start k (Fixed t.Minus s ∷ ts) h = refl
same_start k (Fixed _ s ∷ ts) h = absurd h

compared : (op : Comparison) (s : Spot) (k : List Symbol) (ts : List Token)
    → nests (Compare ∷ k) (Fixed (comparison_sign op) s ∷ ts) ≡ (1 + depth k) ∷ nests (AUnary ∷ Prods 0 ∷ Sums 0 ∷ Ends ∷ k) ts
compared equal s k ts = refl
compared not_equal s k ts = refl
compared below s k ts = refl
compared at_most s k ts = refl
compared above s k ts = refl
compared at_least s k ts = refl

mutual
  pub nest_unary : (u : Unary) (k : List Symbol) (ts : List Token) (ms : List ℕ) → Off AUnary ts → nests k ts ≡ ms
      → nests (AUnary ∷ k) (unary_text u ++ ts) ≡ unary_nests (depth k) u ++ ms
  nest_unary (bang s u) k ts ms o e = ap (λ w. (1 + depth k) ∷ w) (nest_unary u (Ends ∷ k) ts ms o (pass Ends k ts refl (not_ends ts) ∙ e))
  nest_unary (negative s u) k ts ms o e = ap (λ w. (1 + depth k) ∷ w) (nest_unary u (Ends ∷ k) ts ms o (pass Ends k ts refl (not_ends ts) ∙ e))
  nest_unary (number v s) k ts ms o e = ap (λ w. depth k ∷ w) (pass NumberType k ts refl (no_type ts o) ∙ e)
  nest_unary (typed_number v s c ty) k ts ms o e = ap (λ w. depth k ∷ depth k ∷ w) (nest_scalar ty k ts ms e)
  nest_unary (true_ s) k ts ms o e = ap (λ w. depth k ∷ w) e
  nest_unary (false_ s) k ts ms o e = ap (λ w. depth k ∷ w) e
  nest_unary (pi s) k ts ms o e = ap (λ w. depth k ∷ w) e
  nest_unary (place p) k ts ms o e = nest_place p k ts ms o e
  nest_unary (called c) k ts ms o e = nest_call c k ts ms e
  nest_unary (paren l es r) k ts ms o e =
      let n = depth k in
      ap (λ w. (1 + n) ∷ w) (both _ (exprs_text es) (Fixed t.RightParen r ∷ []) ts (exprs_nests (1 + n) es) (n ∷ []) ms
      (nest_exprs es (Closing t.RightParen ∷ k) (Fixed t.RightParen r ∷ ts) (n ∷ ms) refl (ap (λ w. n ∷ w) e)))

  pub nest_scalar : (ty : Scalar) (k : List Symbol) (ts : List Token) (ms : List ℕ) → nests k ts ≡ ms
      → nests (AScalar ∷ k) (scalar_text ty ++ ts) ≡ scalar_nests (depth k) ty ++ ms
  nest_scalar (bit s) k ts ms e = ap (λ w. depth k ∷ w) e
  nest_scalar (uint s l x r) k ts ms e =
      let n = depth k in
      ap (λ w. n ∷ (1 + n) ∷ w) (both _ (expr_text x) (Fixed t.RightBracket r ∷ []) ts (expr_nests (1 + n) x) (n ∷ []) ms
      (nest_expr x (Closing t.RightBracket ∷ k) (Fixed t.RightBracket r ∷ ts) (n ∷ ms) refl (ap (λ w. n ∷ w) e)))
  nest_scalar (int s l x r) k ts ms e =
      let n = depth k in
      ap (λ w. n ∷ (1 + n) ∷ w) (both _ (expr_text x) (Fixed t.RightBracket r ∷ []) ts (expr_nests (1 + n) x) (n ∷ []) ms
      (nest_expr x (Closing t.RightBracket ∷ k) (Fixed t.RightBracket r ∷ ts) (n ∷ ms) refl (ap (λ w. n ∷ w) e)))

  nest_place : (p : Place) (k : List Symbol) (ts : List Token) (ms : List ℕ) → Off AUnary ts → nests k ts ≡ ms
      → nests (AUnary ∷ k) (place_text p ++ ts) ≡ place_nests (depth k) p ++ ms
  nest_place (whole x s) k ts ms o e = ap (λ w. depth k ∷ w) (pass InName k ts refl (no_name ts o) ∙ e)
  nest_place (part x s l i r) k ts ms o e =
      let n = depth k in
      ap (λ w. n ∷ (1 + n) ∷ w) (both _ (expr_text i) (Fixed t.RightBracket r ∷ []) ts (expr_nests (1 + n) i) (n ∷ []) ms
      (nest_expr i (InBracket ∷ k) (Fixed t.RightBracket r ∷ ts) (n ∷ ms) refl (ap (λ w. n ∷ w) (pass InIndex k ts refl (no_index ts o) ∙ e))))
  nest_place (part_of_part x s l i r m j q) k ts ms o e =
      let n = depth k in
      ap (λ w. n ∷ (1 + n) ∷ w)
      (both _ (expr_text i) (Fixed t.RightBracket r ∷ Fixed t.LeftBracket m ∷ (expr_text j ++ (Fixed t.RightBracket q ∷ []))) ts
      (expr_nests (1 + n) i) (n ∷ (1 + n) ∷ (expr_nests (1 + n) j ++ (n ∷ []))) ms
      (nest_expr i (InBracket ∷ k) (Fixed t.RightBracket r ∷ Fixed t.LeftBracket m ∷ ((expr_text j ++ (Fixed t.RightBracket q ∷ [])) ++ ts))
      (n ∷ (1 + n) ∷ ((expr_nests (1 + n) j ++ (n ∷ [])) ++ ms)) refl
      (ap (λ w. n ∷ (1 + n) ∷ w) (both _ (expr_text j) (Fixed t.RightBracket q ∷ []) ts (expr_nests (1 + n) j) (n ∷ []) ms
      (nest_expr j (Closing t.RightBracket ∷ k) (Fixed t.RightBracket q ∷ ts) (n ∷ ms) refl (ap (λ w. n ∷ w) e))))))

  nest_call : (c : Call) (k : List Symbol) (ts : List Token) (ms : List ℕ) → nests k ts ≡ ms
      → nests (AUnary ∷ k) (call_text c ++ ts) ≡ call_nests (depth k) c ++ ms
  nest_call (plain x s l a r) k ts ms e =
      let n = depth k in
      ap (λ w. n ∷ (1 + n) ∷ w) (both _ (args_text a) (Fixed t.RightParen r ∷ []) ts (args_nests (1 + n) a) (n ∷ []) ms (nest_args a k r ts ms e))
  nest_call (with_statics x s l (last i) r m a q) k ts ms e =
      let n = depth k in
      ap (λ w. n ∷ (1 + n) ∷ w)
      (both _ (expr_text i) (Fixed t.RightBracket r ∷ Fixed t.LeftParen m ∷ (args_text a ++ (Fixed t.RightParen q ∷ []))) ts
      (expr_nests (1 + n) i) (n ∷ (1 + n) ∷ (args_nests (1 + n) a ++ (n ∷ []))) ms
      (nest_expr i (InBracket ∷ k) (Fixed t.RightBracket r ∷ Fixed t.LeftParen m ∷ ((args_text a ++ (Fixed t.RightParen q ∷ [])) ++ ts))
      (n ∷ (1 + n) ∷ ((args_nests (1 + n) a ++ (n ∷ [])) ++ ms)) refl
      (ap (λ w. n ∷ (1 + n) ∷ w) (both _ (args_text a) (Fixed t.RightParen q ∷ []) ts (args_nests (1 + n) a) (n ∷ []) ms (nest_args a k q ts ms e)))))
  nest_call (with_statics x s l (and_more i c es) r m a q) k ts ms e =
      let n = depth k in
      let tail = Fixed t.RightBracket r ∷ Fixed t.LeftParen m ∷ (args_text a ++ (Fixed t.RightParen q ∷ [])) in
      let counts = n ∷ (1 + n) ∷ (args_nests (1 + n) a ++ (n ∷ [])) in
      ap (λ w. n ∷ (1 + n) ∷ w)
      (both _ (expr_text i ++ (Fixed t.Comma c ∷ exprs_text es)) tail ts (expr_nests (1 + n) i ++ ((1 + n) ∷ exprs_nests (1 + n) es)) counts ms
      (both _ (expr_text i) (Fixed t.Comma c ∷ exprs_text es) (tail ++ ts) (expr_nests (1 + n) i) ((1 + n) ∷ exprs_nests (1 + n) es) (counts ++ ms)
      (nest_expr i (InBracket ∷ k) (Fixed t.Comma c ∷ (exprs_text es ++ (tail ++ ts))) ((1 + n) ∷ (exprs_nests (1 + n) es ++ (counts ++ ms))) refl
      (ap (λ w. (1 + n) ∷ w) (nest_exprs es (Closing t.RightBracket ∷ CallPart ∷ k) (tail ++ ts) (counts ++ ms) refl
      (ap (λ w. n ∷ (1 + n) ∷ w) (both _ (args_text a) (Fixed t.RightParen q ∷ []) ts (args_nests (1 + n) a) (n ∷ []) ms (nest_args a k q ts ms e))))))))

  pub nest_args : (a : Args) (k : List Symbol) (r : Spot) (ts : List Token) (ms : List ℕ) → nests k ts ≡ ms
      → nests (Arguments ∷ Closing t.RightParen ∷ k) (args_text a ++ (Fixed t.RightParen r ∷ ts)) ≡ args_nests (1 + depth k) a ++ (depth k ∷ ms)
  nest_args no_args k r ts ms e = ap (λ w. depth k ∷ w) e
  nest_args (args es) k r ts ms e =
      same_start (Closing t.RightParen ∷ k) (exprs_text es ++ (Fixed t.RightParen r ∷ ts)) (start_exprs es (Fixed t.RightParen r ∷ ts))
      ∙ nest_exprs es (Closing t.RightParen ∷ k) (Fixed t.RightParen r ∷ ts) (depth k ∷ ms) refl (ap (λ w. depth k ∷ w) e)

  nest_prods : (p : Prod) (k : List Symbol) (ts : List Token) (ms : List ℕ) → Off AUnary ts → nests (Prods (prod_count p) ∷ k) ts ≡ ms
      → nests (AUnary ∷ Prods 0 ∷ k) (prod_text p ++ ts) ≡ prod_nests (depth k) p ++ ms
  nest_prods (one_unary u) k ts ms o e = nest_unary u (Prods 0 ∷ k) ts ms o e
  nest_prods (times p s u) k ts ms o e =
      let m = prod_count p + 1 + depth k in
      both _ (prod_text p) (Fixed t.Star s ∷ unary_text u) ts (prod_nests (depth k) p) (m ∷ unary_nests m u) ms
      (nest_prods p k (Fixed t.Star s ∷ (unary_text u ++ ts)) (m ∷ (unary_nests m u ++ ms)) refl
      (ap (λ w. pick (prod_count p + 1) (depth k) ∷ w) (nest_unary u (Prods (prod_count p + 1) ∷ k) ts ms o e)
      ∙ ap (λ d. d ∷ (unary_nests d u ++ ms)) (one_more (prod_count p) (depth k))))
  nest_prods (over p s u) k ts ms o e =
      let m = prod_count p + 1 + depth k in
      both _ (prod_text p) (Fixed t.Slash s ∷ unary_text u) ts (prod_nests (depth k) p) (m ∷ unary_nests m u) ms
      (nest_prods p k (Fixed t.Slash s ∷ (unary_text u ++ ts)) (m ∷ (unary_nests m u ++ ms)) refl
      (ap (λ w. pick (prod_count p + 1) (depth k) ∷ w) (nest_unary u (Prods (prod_count p + 1) ∷ k) ts ms o e)
      ∙ ap (λ d. d ∷ (unary_nests d u ++ ms)) (one_more (prod_count p) (depth k))))

  nest_sums : (a : Sum) (k : List Symbol) (ts : List Token) (ms : List ℕ) → Off (Prods 0) ts → nests (Sums (sum_count a) ∷ k) ts ≡ ms
      → nests (AUnary ∷ Prods 0 ∷ Sums 0 ∷ k) (sum_text a ++ ts) ≡ sum_nests (depth k) a ++ ms
  nest_sums (one_prod p) k ts ms o e = nest_prods p (Sums 0 ∷ k) ts ms (off_unary ts o) (pass (Prods (prod_count p)) (Sums 0 ∷ k) ts refl (no_prods (prod_count p) ts o) ∙ e)
  nest_sums (plus a s p) k ts ms o e =
      let m = sum_count a + 1 + depth k in
      let behind = Sums (sum_count a + 1) ∷ k in
      both _ (sum_text a) (Fixed t.Plus s ∷ prod_text p) ts (sum_nests (depth k) a) (m ∷ prod_nests m p) ms
      (nest_sums a k (Fixed t.Plus s ∷ (prod_text p ++ ts)) (m ∷ (prod_nests m p ++ ms)) refl
      (ap (λ w. pick (sum_count a + 1) (depth k) ∷ w) (nest_prods p behind ts ms (off_unary ts o) (pass (Prods (prod_count p)) behind ts refl (no_prods (prod_count p) ts o) ∙ e))
      ∙ ap (λ d. d ∷ (prod_nests d p ++ ms)) (one_more (sum_count a) (depth k))))
  nest_sums (minus a s p) k ts ms o e =
      let m = sum_count a + 1 + depth k in
      let behind = Sums (sum_count a + 1) ∷ k in
      both _ (sum_text a) (Fixed t.Minus s ∷ prod_text p) ts (sum_nests (depth k) a) (m ∷ prod_nests m p) ms
      (nest_sums a k (Fixed t.Minus s ∷ (prod_text p ++ ts)) (m ∷ (prod_nests m p ++ ms)) refl
      (ap (λ w. pick (sum_count a + 1) (depth k) ∷ w) (nest_prods p behind ts ms (off_unary ts o) (pass (Prods (prod_count p)) behind ts refl (no_prods (prod_count p) ts o) ∙ e))
      ∙ ap (λ d. d ∷ (prod_nests d p ++ ms)) (one_more (sum_count a) (depth k))))

  nest_cmp : (c : Cmp) (k : List Symbol) (ts : List Token) (ms : List ℕ) → Off Compare ts → nests k ts ≡ ms
      → nests (AUnary ∷ Prods 0 ∷ Sums 0 ∷ Compare ∷ k) (cmp_text c ++ ts) ≡ cmp_nests (depth k) c ++ ms
  nest_cmp (one_sum a) k ts ms o e =
      nest_sums a (Compare ∷ k) ts ms (off_prod ts (off_sum ts o))
      (pass (Sums (sum_count a)) (Compare ∷ k) ts refl (no_sums (sum_count a) ts (off_sum ts o)) ∙ pass Compare k ts refl (no_compare ts o) ∙ e)
  nest_cmp (compare op a s b) k ts ms o e =
      let sign = Fixed (comparison_sign op) s in
      let n = depth k in
      both _ (sum_text a) (sign ∷ sum_text b) ts (sum_nests n a) ((1 + n) ∷ sum_nests (1 + n) b) ms
      (nest_sums a (Compare ∷ k) (sign ∷ (sum_text b ++ ts)) ((1 + n) ∷ (sum_nests (1 + n) b ++ ms)) (or_left _ _ (off_comparison op))
      (pass (Sums (sum_count a)) (Compare ∷ k) (sign ∷ (sum_text b ++ ts)) refl (no_sums (sum_count a) (sign ∷ (sum_text b ++ ts)) (off_comparison op))
      ∙ compared op s k (sum_text b ++ ts)
      ∙ ap (λ w. (1 + n) ∷ w) (nest_sums b (Ends ∷ k) ts ms (off_prod ts (off_sum ts o))
      (pass (Sums (sum_count b)) (Ends ∷ k) ts refl (no_sums (sum_count b) ts (off_sum ts o)) ∙ pass Ends k ts refl (not_ends ts) ∙ e))))

  nest_ands : (a : And) (k : List Symbol) (ts : List Token) (ms : List ℕ) → Off Compare ts → nests (Ands (and_count a) ∷ k) ts ≡ ms
      → nests (AUnary ∷ Prods 0 ∷ Sums 0 ∷ Compare ∷ Ands 0 ∷ k) (and_text a ++ ts) ≡ and_nests (depth k) a ++ ms
  nest_ands (one_cmp c) k ts ms o e = nest_cmp c (Ands 0 ∷ k) ts ms o e
  nest_ands (and a s c) k ts ms o e =
      let m = and_count a + 1 + depth k in
      both _ (and_text a) (Fixed t.And s ∷ cmp_text c) ts (and_nests (depth k) a) (m ∷ cmp_nests m c) ms
      (nest_ands a k (Fixed t.And s ∷ (cmp_text c ++ ts)) (m ∷ (cmp_nests m c ++ ms)) refl (ap (λ w. pick (and_count a + 1) (depth k) ∷ w) (nest_cmp c (Ands (and_count a + 1) ∷ k) ts ms o e)
      ∙ ap (λ d. d ∷ (cmp_nests d c ++ ms)) (one_more (and_count a) (depth k))))

  nest_ors : (x : Expr) (k : List Symbol) (ts : List Token) (ms : List ℕ) → Off (Ands 0) ts → nests (Ors (or_count x) ∷ k) ts ≡ ms
      → nests (an_expr k) (expr_text x ++ ts) ≡ expr_nests (depth k) x ++ ms
  nest_ors (one_and a) k ts ms o e = nest_ands a (Ors 0 ∷ k) ts ms (off_cmp ts o) (pass (Ands (and_count a)) (Ors 0 ∷ k) ts refl (no_ands (and_count a) ts o) ∙ e)
  nest_ors (or x s a) k ts ms o e =
      let m = or_count x + 1 + depth k in
      let behind = Ors (or_count x + 1) ∷ k in
      both _ (expr_text x) (Fixed t.Or s ∷ and_text a) ts (expr_nests (depth k) x) (m ∷ and_nests m a) ms
      (nest_ors x k (Fixed t.Or s ∷ (and_text a ++ ts)) (m ∷ (and_nests m a ++ ms)) refl
      (ap (λ w. pick (or_count x + 1) (depth k) ∷ w) (nest_ands a behind ts ms (off_cmp ts o) (pass (Ands (and_count a)) behind ts refl (no_ands (and_count a) ts o) ∙ e))
      ∙ ap (λ d. d ∷ (and_nests d a ++ ms)) (one_more (or_count x) (depth k))))

  pub nest_expr : (x : Expr) (k : List Symbol) (ts : List Token) (ms : List ℕ) → Off (Ors 0) ts → nests k ts ≡ ms
      → nests (an_expr k) (expr_text x ++ ts) ≡ expr_nests (depth k) x ++ ms
  nest_expr (one_and a) k ts ms o e =
      nest_ands a (Ors 0 ∷ k) ts ms (off_cmp ts (off_and ts o))
      (pass (Ands (and_count a)) (Ors 0 ∷ k) ts refl (no_ands (and_count a) ts (off_and ts o)) ∙ pass (Ors 0) k ts refl (no_ors 0 ts o) ∙ e)
  nest_expr (or x s a) k ts ms o e =
      let m = or_count x + 1 + depth k in
      let behind = Ors (or_count x + 1) ∷ k in
      both _ (expr_text x) (Fixed t.Or s ∷ and_text a) ts (expr_nests (depth k) x) (m ∷ and_nests m a) ms
      (nest_ors x k (Fixed t.Or s ∷ (and_text a ++ ts)) (m ∷ (and_nests m a ++ ms)) refl
      (ap (λ w. pick (or_count x + 1) (depth k) ∷ w) (nest_ands a behind ts ms (off_cmp ts (off_and ts o))
      (pass (Ands (and_count a)) behind ts refl (no_ands (and_count a) ts (off_and ts o)) ∙ pass (Ors (or_count x + 1)) k ts refl (no_ors (or_count x + 1) ts o) ∙ e))
      ∙ ap (λ d. d ∷ (and_nests d a ++ ms)) (one_more (or_count x) (depth k))))

  pub nest_exprs : (es : Exprs) (k : List Symbol) (ts : List Token) (ms : List ℕ) → Off MoreExprs ts → nests k ts ≡ ms
      → nests (exprs k) (exprs_text es ++ ts) ≡ exprs_nests (depth k) es ++ ms
  nest_exprs (last x) k ts ms o e = nest_expr x (MoreExprs ∷ k) ts ms (off_expr ts o) (pass MoreExprs k ts refl (no_more ts o) ∙ e)
  nest_exprs (and_more x s es) k ts ms o e =
      let n = depth k in
      both _ (expr_text x) (Fixed t.Comma s ∷ exprs_text es) ts (expr_nests n x) (n ∷ exprs_nests n es) ms
      (nest_expr x (MoreExprs ∷ k) (Fixed t.Comma s ∷ (exprs_text es ++ ts)) (n ∷ (exprs_nests n es ++ ms)) refl (ap (λ w. n ∷ w) (nest_exprs es k ts ms o e)))
