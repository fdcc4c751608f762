-- The greatest nest of an expression, on the nest around it.
use Rattle.std.proofs.Common.{◌≡◌, ℕ, ◌+◌, ◌-◌, ◌≤◌, nat_le, Bool, true, false, cond, List, [], ◌∷◌, ◌++◌, refl, arith}
use Rattle.std.proofs.lemmas.Bool.Decides.{nat_tests}
use Rattle.silq_grammar.specs.Grammar.{Expr, one_and, or, And, one_cmp, and, Cmp, one_sum, compare, Sum, one_prod, plus, minus, Prod, one_unary, times, over, Unary, bang, negative, number, typed_number, true_, false_, pi, place, called, paren, Scalar, bit, uint, int, Place, whole, part, part_of_part, Call, plain, with_statics, Args, no_args, args, Exprs, last, and_more}
use Rattle.silq_grammar.specs.Nest.{prod_count, sum_count, and_count, or_count, expr_nests, and_nests, cmp_nests, sum_nests, prod_nests, unary_nests, scalar_nests, place_nests, call_nests, args_nests, exprs_nests}
use Rattle.silq_print.specs.Ways.{greater}

abbrev pub AllAtMost : ℕ → List ℕ → Type 0
AllAtMost k [] = Unit {0}
AllAtMost k (n ∷ ns) = (n ≤ k) × AllAtMost k ns

pub test_true : (a b : ℕ) → nat_le a b ≡ true → a ≤ b
test_true a b e = grind (arith, nat_tests)

pub test_false : (a b : ℕ) → nat_le a b ≡ false → b ≤ a
test_false a b e = grind (arith, nat_tests)

pub left_below : (a b k : ℕ) → greater a b ≤ k → a ≤ k
left_below a b k h = at_test (nat_le a b) refl h
  where
    at_test : (t : Bool) → nat_le a b ≡ t → cond t b a ≤ k → a ≤ k
    at_test true e g = let f = test_true a b e in omega arith
    at_test false e g = g

pub right_below : (a b k : ℕ) → greater a b ≤ k → b ≤ k
right_below a b k h = at_test (nat_le a b) refl h
  where
    at_test : (t : Bool) → nat_le a b ≡ t → cond t b a ≤ k → b ≤ k
    at_test true e g = g
    at_test false e g = let f = test_false a b e in omega arith

pub both_below : (a b k : ℕ) → a ≤ k → b ≤ k → greater a b ≤ k
both_below a b k h g = at_test (nat_le a b)
  where
    at_test : (t : Bool) → cond t b a ≤ k
    at_test true = g
    at_test false = h

-- the greatest nest, above the one around

abbrev mutual
  pub expr_top : Expr → ℕ
  expr_top (one_and a) = and_top a
  expr_top (or e s a) = greater (expr_top e) (or_count e + 1 + and_top a)

  pub and_top : And → ℕ
  and_top (one_cmp c) = cmp_top c
  and_top (and a s c) = greater (and_top a) (and_count a + 1 + cmp_top c)

  pub cmp_top : Cmp → ℕ
  cmp_top (one_sum a) = sum_top a
  cmp_top (compare c a s b) = greater (sum_top a) (1 + sum_top b)

  pub sum_top : Sum → ℕ
  sum_top (one_prod p) = prod_top p
  sum_top (plus a s p) = greater (sum_top a) (sum_count a + 1 + prod_top p)
  sum_top (minus a s p) = greater (sum_top a) (sum_count a + 1 + prod_top p)

  pub prod_top : Prod → ℕ
  prod_top (one_unary u) = unary_top u
  prod_top (times p s u) = greater (prod_top p) (prod_count p + 1 + unary_top u)
  prod_top (over p s u) = greater (prod_top p) (prod_count p + 1 + unary_top u)

  pub unary_top : Unary → ℕ
  unary_top (bang s u) = 1 + unary_top u
  unary_top (negative s u) = 1 + unary_top u
  unary_top (number v s) = 0
  unary_top (typed_number v s c ty) = scalar_top ty
  unary_top (true_ s) = 0
  unary_top (false_ s) = 0
  unary_top (pi s) = 0
  unary_top (place p) = place_top p
  unary_top (called c) = call_top c
  unary_top (paren l es r) = 1 + exprs_top es

  pub scalar_top : Scalar → ℕ
  scalar_top (bit s) = 0
  scalar_top (uint s l e r) = 1 + expr_top e
  scalar_top (int s l e r) = 1 + expr_top e

  pub place_top : Place → ℕ
  place_top (whole x s) = 0
  place_top (part x s l e r) = 1 + expr_top e
  place_top (part_of_part x s l e r m f q) = greater (1 + expr_top e) (1 + expr_top f)

  pub call_top : Call → ℕ
  call_top (plain x s l a r) = 1 + args_top a
  call_top (with_statics x s l es r m a q) = greater (1 + exprs_top es) (1 + args_top a)

  pub args_top : Args → ℕ
  args_top no_args = 0
  args_top (args es) = exprs_top es

  pub exprs_top : Exprs → ℕ
  exprs_top (last e) = expr_top e
  exprs_top (and_more e s es) = greater (expr_top e) (exprs_top es)

pub at_most_both : (k : ℕ) (ns ms : List ℕ) → AllAtMost k ns → AllAtMost k ms → AllAtMost k (ns ++ ms)
at_most_both k [] ms h g = g
at_most_both k (n ∷ ns) ms h g = (h.0, at_most_both k ns ms h.1 g)

pub at_most_left : (k : ℕ) (ns ms : List ℕ) → AllAtMost k (ns ++ ms) → AllAtMost k ns
at_most_left k [] ms h = tt
at_most_left k (n ∷ ns) ms h = (h.0, at_most_left k ns ms h.1)

pub at_most_right : (k : ℕ) (ns ms : List ℕ) → AllAtMost k (ns ++ ms) → AllAtMost k ms
at_most_right k [] ms h = h
at_most_right k (n ∷ ns) ms h = at_most_right k ns ms h.1

-- the greatest of the numbers is t above n
pub record IsTop (n : ℕ) (ns : List ℕ) (t : ℕ) : Type 0 where
  pub reach : (k : ℕ) → n + t ≤ k → AllAtMost k ns
  pub bound : (k : ℕ) → AllAtMost k ns → n + t ≤ k

alone : {n : ℕ} → IsTop n (n ∷ []) 0
alone = record { reach = λ k h. (omega (arith, h), tt); bound = λ k h. let g = h.0 in omega arith }

both : {n t u : ℕ} {ns ms : List ℕ} → IsTop n ns t → IsTop n ms u → IsTop n (ns ++ ms) (greater t u)
both {n = n} {t = t} {u = u} {ns = ns} {ms = ms} a b = record { reach = reach; bound = bound }
  where
    reach : (k : ℕ) → n + greater t u ≤ k → AllAtMost k (ns ++ ms)
    reach k h =
        let g : greater t u ≤ k - n = omega arith in
        let e = left_below t u (k - n) g in
        let f = right_below t u (k - n) g in
        let p : n + t ≤ k = omega arith in
        let q : n + u ≤ k = omega arith in
        at_most_both k ns ms (a.reach k p) (b.reach k q)

    bound : (k : ℕ) → AllAtMost k (ns ++ ms) → n + greater t u ≤ k
    bound k h =
        let e = a.bound k (at_most_left k ns ms h) in
        let f = b.bound k (at_most_right k ns ms h) in
        let p : t ≤ k - n = omega arith in
        let q : u ≤ k - n = omega arith in
        let g = both_below t u (k - n) p q in
        omega arith

-- with a token of that nest before
before : {n t : ℕ} {ns : List ℕ} → IsTop n ns t → IsTop n (n ∷ ns) t
before a = record { reach = λ k h. (omega (arith, h), a.reach k h); bound = λ k h. a.bound k h.1 }

-- with one behind
behind : {n t : ℕ} {ns : List ℕ} → IsTop n ns t → IsTop n (ns ++ n ∷ []) t
behind {n = n} {t = t} {ns = ns} a = record {
  reach = λ k h. at_most_both k ns (n ∷ []) (a.reach k h) (omega (arith, h), tt);
  bound = λ k h. a.bound k (at_most_left k ns (n ∷ []) h);
}

-- on a greater nest
deeper : (m : ℕ) {n t : ℕ} {ns : List ℕ} → IsTop (m + n) ns t → IsTop n ns (m + t)
deeper m {n = n} {t = t} a = record {
  reach = λ k h. let g : m + n + t ≤ k = omega (arith, h) in a.reach k g;
  bound = λ k h. let g = a.bound k h in omega arith;
}

mutual
  pub expr_is : (n : ℕ) (d : Expr) → IsTop n (expr_nests n d) (expr_top d)
  expr_is n (one_and a) = and_is n a
  expr_is n (or e s a) = both (expr_is n e) (deeper (or_count e + 1) (before (and_is _ a)))

  pub and_is : (n : ℕ) (d : And) → IsTop n (and_nests n d) (and_top d)
  and_is n (one_cmp c) = cmp_is n c
  and_is n (and a s c) = both (and_is n a) (deeper (and_count a + 1) (before (cmp_is _ c)))

  pub cmp_is : (n : ℕ) (d : Cmp) → IsTop n (cmp_nests n d) (cmp_top d)
  cmp_is n (one_sum a) = sum_is n a
  cmp_is n (compare c a s b) = both (sum_is n a) (deeper 1 (before (sum_is _ b)))

  pub sum_is : (n : ℕ) (d : Sum) → IsTop n (sum_nests n d) (sum_top d)
  sum_is n (one_prod p) = prod_is n p
  sum_is n (plus a s p) = both (sum_is n a) (deeper (sum_count a + 1) (before (prod_is _ p)))
  sum_is n (minus a s p) = both (sum_is n a) (deeper (sum_count a + 1) (before (prod_is _ p)))

  pub prod_is : (n : ℕ) (d : Prod) → IsTop n (prod_nests n d) (prod_top d)
  prod_is n (one_unary u) = unary_is n u
  prod_is n (times p s u) = both (prod_is n p) (deeper (prod_count p + 1) (before (unary_is _ u)))
  prod_is n (over p s u) = both (prod_is n p) (deeper (prod_count p + 1) (before (unary_is _ u)))

  pub unary_is : (n : ℕ) (d : Unary) → IsTop n (unary_nests n d) (unary_top d)
  unary_is n (bang s u) = deeper 1 (before (unary_is _ u))
  unary_is n (negative s u) = deeper 1 (before (unary_is _ u))
  unary_is n (number v s) = alone
  unary_is n (typed_number v s c ty) = before (before (scalar_is n ty))
  unary_is n (true_ s) = alone
  unary_is n (false_ s) = alone
  unary_is n (pi s) = alone
  unary_is n (place p) = place_is n p
  unary_is n (called c) = call_is n c
  unary_is n (paren l es r) = behind (deeper 1 (before (exprs_is _ es)))

  pub scalar_is : (n : ℕ) (d : Scalar) → IsTop n (scalar_nests n d) (scalar_top d)
  scalar_is n (bit s) = alone
  scalar_is n (uint s l e r) = before (behind (deeper 1 (before (expr_is _ e))))
  scalar_is n (int s l e r) = before (behind (deeper 1 (before (expr_is _ e))))

  pub place_is : (n : ℕ) (d : Place) → IsTop n (place_nests n d) (place_top d)
  place_is n (whole x s) = alone
  place_is n (part x s l e r) = before (behind (deeper 1 (before (expr_is _ e))))
  place_is n (part_of_part x s l e r m f q) = before (both (deeper 1 (before (expr_is _ e))) (before (behind (deeper 1 (before (expr_is _ f))))))

  pub call_is : (n : ℕ) (d : Call) → IsTop n (call_nests n d) (call_top d)
  call_is n (plain x s l a r) = before (behind (deeper 1 (args_is _ a)))
  call_is n (with_statics x s l es r m a q) = before (both (deeper 1 (before (exprs_is _ es))) (before (behind (deeper 1 (args_is _ a)))))

  -- with the sign that opens them
  args_is : (n : ℕ) (d : Args) → IsTop n (n ∷ args_nests n d) (args_top d)
  args_is n no_args = alone
  args_is n (args es) = before (exprs_is n es)

  pub exprs_is : (n : ℕ) (d : Exprs) → IsTop n (exprs_nests n d) (exprs_top d)
  exprs_is n (last e) = expr_is n e
  exprs_is n (and_more e s es) = both (expr_is n e) (before (exprs_is n es))
