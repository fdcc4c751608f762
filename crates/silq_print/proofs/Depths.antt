-- Depths up to 64, of the ways to write an expression.
use Rattle.std.proofs.Common.{◌≡◌, ◌⊎◌, inl, inr, ℕ, zero, suc, ◌+◌, ◌-◌, ◌<◌, ◌≤◌, Bool, true, false, nat_le, nat_eq, cond, List, [], ◌∷◌, length, get_or, set, replicate, drop, drop-cons, add-one, refl, sym, ◌∙◌, ap, arith}
use Rattle.std.proofs.lemmas.Bool.Decides.{nat_tests}
use Rattle.std.proofs.lemmas.Grind.{get_or-set_at}
use Rattle.std.proofs.lemmas.List.{get_or-set_other, get_or-replicate}
use Rattle.silq_tree.specs.declared.node.BinaryOp.{BinaryOp}
use Rattle.silq_tree.specs.declared.node.BinaryOp.TheVariants as ops
use Rattle.silq_grammar.specs.Grammar.{Expr, one_and, or, And, one_cmp, and, one_sum, compare, Sum, one_prod, plus, minus, Prod, one_unary, times, over}
use Rattle.silq_grammar.specs.Nest.{prod_count, sum_count, and_count, or_count}
use Rattle.silq_print.specs.Ways.{greater, Written, at_or, at_and, at_cmp, at_sum, at_prod, at_unary, to_expr, to_and, to_cmp, to_sum, to_prod, to_unary, join, depth, Ways, only, also, least}
use Rattle.silq_print.specs.Levels.{left_level, right_level, goes_on_at, is_looser}
use Rattle.silq_print.specs.Depths.{capped, signs, lesser, least_with, least_of, only_at, longer_at, AreDepths}
use Rattle.silq_print.specs.declared.level.Level.{Level}
use Rattle.silq_print.specs.declared.level.Level.TheVariants as l
use Rattle.silq_print.proofs.Tops.{expr_top, and_top, cmp_top, sum_top, prod_top, unary_top, test_true, test_false, right_below}
use Rattle.silq_print.proofs.Chains.{top_of, depth_below, top_below}
use Rattle.silq_print.proofs.WaysTexts.{level}

pub depth_is : (w : Written) → depth w ≡ top_of w
depth_is w = let a = depth_below w in let b = top_below w in omega arith

pub capped_cases : (n : ℕ) → ((n ≤ 64) × (capped n ≡ n)) ⊎ ((65 ≤ n) × (capped n ≡ 65))
capped_cases n = at_test (nat_le n 64) refl
  where
    at_test : (b : Bool) → nat_le n 64 ≡ b → ((n ≤ 64) × (cond b n 65 ≡ n)) ⊎ ((65 ≤ n) × (cond b n 65 ≡ 65))
    at_test true e = inl (test_true n 64 e, refl)
    at_test false e = inr (grind (arith, nat_tests), refl)

pub greater_cases : (a b : ℕ) → ((b ≤ a) × (greater a b ≡ a)) ⊎ ((a ≤ b) × (greater a b ≡ b))
greater_cases a b = at_test (nat_le a b) refl
  where
    at_test : (t : Bool) → nat_le a b ≡ t → ((b ≤ a) × (cond t b a ≡ a)) ⊎ ((a ≤ b) × (cond t b a ≡ b))
    at_test true e = inr (test_true a b e, refl)
    at_test false e = inl (test_false a b e, refl)

pub lesser_cases : (a b : ℕ) → ((a ≤ b) × (lesser a b ≡ a)) ⊎ ((b ≤ a) × (lesser a b ≡ b))
lesser_cases a b = at_test (nat_le a b) refl
  where
    at_test : (t : Bool) → nat_le a b ≡ t → ((a ≤ b) × (cond t a b ≡ a)) ⊎ ((b ≤ a) × (cond t a b ≡ b))
    at_test true e = inl (test_true a b e, refl)
    at_test false e = inr (test_false a b e, refl)

pub capped_greater : (a b : ℕ) → greater (capped a) (capped b) ≡ capped (greater a b)
capped_greater a b = go (capped_cases a) (capped_cases b) (greater_cases a b) (greater_cases (capped a) (capped b)) (capped_cases (greater a b))
  where
    go : ((a ≤ 64) × (capped a ≡ a)) ⊎ ((65 ≤ a) × (capped a ≡ 65)) → ((b ≤ 64) × (capped b ≡ b)) ⊎ ((65 ≤ b) × (capped b ≡ 65))
        → ((b ≤ a) × (greater a b ≡ a)) ⊎ ((a ≤ b) × (greater a b ≡ b))
        → ((capped b ≤ capped a) × (greater (capped a) (capped b) ≡ capped a)) ⊎ ((capped a ≤ capped b) × (greater (capped a) (capped b) ≡ capped b))
        → ((greater a b ≤ 64) × (capped (greater a b) ≡ greater a b)) ⊎ ((65 ≤ greater a b) × (capped (greater a b) ≡ 65))
        → greater (capped a) (capped b) ≡ capped (greater a b)
    go (inl p) (inl q) (inl r) (inl s) (inl t) = omega (arith, p.0, p.1, q.0, q.1, r.0, r.1, s.0, s.1, t.0, t.1)
    go (inl p) (inl q) (inl r) (inl s) (inr t) = omega (arith, p.0, p.1, q.0, q.1, r.0, r.1, s.0, s.1, t.0, t.1)
    go (inl p) (inl q) (inl r) (inr s) (inl t) = omega (arith, p.0, p.1, q.0, q.1, r.0, r.1, s.0, s.1, t.0, t.1)
    go (inl p) (inl q) (inl r) (inr s) (inr t) = omega (arith, p.0, p.1, q.0, q.1, r.0, r.1, s.0, s.1, t.0, t.1)
    go (inl p) (inl q) (inr r) (inl s) (inl t) = omega (arith, p.0, p.1, q.0, q.1, r.0, r.1, s.0, s.1, t.0, t.1)
    go (inl p) (inl q) (inr r) (inl s) (inr t) = omega (arith, p.0, p.1, q.0, q.1, r.0, r.1, s.0, s.1, t.0, t.1)
    go (inl p) (inl q) (inr r) (inr s) (inl t) = omega (arith, p.0, p.1, q.0, q.1, r.0, r.1, s.0, s.1, t.0, t.1)
    go (inl p) (inl q) (inr r) (inr s) (inr t) = omega (arith, p.0, p.1, q.0, q.1, r.0, r.1, s.0, s.1, t.0, t.1)
    go (inl p) (inr q) (inl r) (inl s) (inl t) = omega (arith, p.0, p.1, q.0, q.1, r.0, r.1, s.0, s.1, t.0, t.1)
    go (inl p) (inr q) (inl r) (inl s) (inr t) = omega (arith, p.0, p.1, q.0, q.1, r.0, r.1, s.0, s.1, t.0, t.1)
    go (inl p) (inr q) (inl r) (inr s) (inl t) = omega (arith, p.0, p.1, q.0, q.1, r.0, r.1, s.0, s.1, t.0, t.1)
    go (inl p) (inr q) (inl r) (inr s) (inr t) = omega (arith, p.0, p.1, q.0, q.1, r.0, r.1, s.0, s.1, t.0, t.1)
    go (inl p) (inr q) (inr r) (inl s) (inl t) = omega (arith, p.0, p.1, q.0, q.1, r.0, r.1, s.0, s.1, t.0, t.1)
    go (inl p) (inr q) (inr r) (inl s) (inr t) = omega (arith, p.0, p.1, q.0, q.1, r.0, r.1, s.0, s.1, t.0, t.1)
    go (inl p) (inr q) (inr r) (inr s) (inl t) = omega (arith, p.0, p.1, q.0, q.1, r.0, r.1, s.0, s.1, t.0, t.1)
    go (inl p) (inr q) (inr r) (inr s) (inr t) = omega (arith, p.0, p.1, q.0, q.1, r.0, r.1, s.0, s.1, t.0, t.1)
    go (inr p) (inl q) (inl r) (inl s) (inl t) = omega (arith, p.0, p.1, q.0, q.1, r.0, r.1, s.0, s.1, t.0, t.1)
    go (inr p) (inl q) (inl r) (inl s) (inr t) = omega (arith, p.0, p.1, q.0, q.1, r.0, r.1, s.0, s.1, t.0, t.1)
    go (inr p) (inl q) (inl r) (inr s) (inl t) = omega (arith, p.0, p.1, q.0, q.1, r.0, r.1, s.0, s.1, t.0, t.1)
    go (inr p) (inl q) (inl r) (inr s) (inr t) = omega (arith, p.0, p.1, q.0, q.1, r.0, r.1, s.0, s.1, t.0, t.1)
    go (inr p) (inl q) (inr r) (inl s) (inl t) = omega (arith, p.0, p.1, q.0, q.1, r.0, r.1, s.0, s.1, t.0, t.1)
    go (inr p) (inl q) (inr r) (inl s) (inr t) = omega (arith, p.0, p.1, q.0, q.1, r.0, r.1, s.0, s.1, t.0, t.1)
    go (inr p) (inl q) (inr r) (inr s) (inl t) = omega (arith, p.0, p.1, q.0, q.1, r.0, r.1, s.0, s.1, t.0, t.1)
    go (inr p) (inl q) (inr r) (inr s) (inr t) = omega (arith, p.0, p.1, q.0, q.1, r.0, r.1, s.0, s.1, t.0, t.1)
    go (inr p) (inr q) r (inl s) (inl t) = at_sides r t
      where
        at_sides : ((b ≤ a) × (greater a b ≡ a)) ⊎ ((a ≤ b) × (greater a b ≡ b)) → (greater a b ≤ 64) × (capped (greater a b) ≡ greater a b) → greater (capped a) (capped b) ≡ capped (greater a b)
        at_sides (inl r) t = absurd (omega (arith, p.0, q.0, r.1, t.0))
        at_sides (inr r) t = absurd (omega (arith, p.0, q.0, r.1, t.0))
    go (inr p) (inr q) r (inl s) (inr t) = omega (arith, p.1, q.1, s.1, t.1)
    go (inr p) (inr q) r (inr s) (inl t) = at_sides r t
      where
        at_sides : ((b ≤ a) × (greater a b ≡ a)) ⊎ ((a ≤ b) × (greater a b ≡ b)) → (greater a b ≤ 64) × (capped (greater a b) ≡ greater a b) → greater (capped a) (capped b) ≡ capped (greater a b)
        at_sides (inl r) t = absurd (omega (arith, p.0, q.0, r.1, t.0))
        at_sides (inr r) t = absurd (omega (arith, p.0, q.0, r.1, t.0))
    go (inr p) (inr q) r (inr s) (inr t) = omega (arith, p.1, q.1, s.1, t.1)

-- more behind signs
pub capped_behind : (s n : ℕ) → capped (s + capped n) ≡ capped (s + n)
capped_behind s n = go (capped_cases n) (capped_cases (s + capped n)) (capped_cases (s + n))
  where
    go : ((n ≤ 64) × (capped n ≡ n)) ⊎ ((65 ≤ n) × (capped n ≡ 65)) → ((s + capped n ≤ 64) × (capped (s + capped n) ≡ s + capped n)) ⊎ ((65 ≤ s + capped n) × (capped (s + capped n) ≡ 65))
        → ((s + n ≤ 64) × (capped (s + n) ≡ s + n)) ⊎ ((65 ≤ s + n) × (capped (s + n) ≡ 65)) → capped (s + capped n) ≡ capped (s + n)
    go (inl p) q r = ap (λ m. capped (s + m)) p.1
    go (inr p) (inl q) r = absurd (omega (arith, p.1, q.0))
    go (inr p) (inr q) (inl r) = absurd (omega (arith, p.0, r.0))
    go (inr p) (inr q) (inr r) = q.1 ∙ sym r.1

-- the depth of a sign between operands

-- an operand of a level
abbrev pub operand_top : Level → Written → ℕ
operand_top own w = cond (is_looser (level w) own) (1 + top_of w) (top_of w)

or_is : (w : Written) → expr_top (to_expr w) ≡ operand_top l.Or w
or_is (at_or d) = refl
or_is (at_and d) = refl
or_is (at_cmp d) = refl
or_is (at_sum d) = refl
or_is (at_prod d) = refl
or_is (at_unary d) = refl

and_is : (w : Written) → and_top (to_and w) ≡ operand_top l.And w
and_is (at_or d) = refl
and_is (at_and d) = refl
and_is (at_cmp d) = refl
and_is (at_sum d) = refl
and_is (at_prod d) = refl
and_is (at_unary d) = refl

cmp_is : (w : Written) → cmp_top (to_cmp w) ≡ operand_top l.Comparison w
cmp_is (at_or d) = refl
cmp_is (at_and d) = refl
cmp_is (at_cmp d) = refl
cmp_is (at_sum d) = refl
cmp_is (at_prod d) = refl
cmp_is (at_unary d) = refl

sum_is : (w : Written) → sum_top (to_sum w) ≡ operand_top l.Sum w
sum_is (at_or d) = refl
sum_is (at_and d) = refl
sum_is (at_cmp d) = refl
sum_is (at_sum d) = refl
sum_is (at_prod d) = refl
sum_is (at_unary d) = refl

prod_is : (w : Written) → prod_top (to_prod w) ≡ operand_top l.Product w
prod_is (at_or d) = refl
prod_is (at_and d) = refl
prod_is (at_cmp d) = refl
prod_is (at_sum d) = refl
prod_is (at_prod d) = refl
prod_is (at_unary d) = refl

pub unary_is : (w : Written) → unary_top (to_unary w) ≡ operand_top l.Unary w
unary_is (at_or d) = refl
unary_is (at_and d) = refl
unary_is (at_cmp d) = refl
unary_is (at_sum d) = refl
unary_is (at_prod d) = refl
unary_is (at_unary d) = refl

sides : {a b c d : ℕ} (n : ℕ) → a ≡ b → c ≡ d → greater a (n + c) ≡ greater b (n + d)
sides {a = a} {b = b} {c = c} {d = d} n e f = ap (λ x. greater x (n + c)) e ∙ ap (λ x. greater b (n + x)) f

pub join_top : (op : BinaryOp) (v w : Written) → top_of (join op v w) ≡ greater (operand_top (left_level op) v) (signs (join op v w) + operand_top (right_level op) w)
join_top ops.Or v w = sides (or_count (to_expr v) + 1) (or_is v) (and_is w)
join_top ops.And v w = sides (and_count (to_and v) + 1) (and_is v) (cmp_is w)
join_top ops.Eq v w = sides 1 (sum_is v) (sum_is w)
join_top ops.Ne v w = sides 1 (sum_is v) (sum_is w)
join_top ops.Lt v w = sides 1 (sum_is v) (sum_is w)
join_top ops.Le v w = sides 1 (sum_is v) (sum_is w)
join_top ops.Gt v w = sides 1 (sum_is v) (sum_is w)
join_top ops.Ge v w = sides 1 (sum_is v) (sum_is w)
join_top ops.Add v w = sides (sum_count (to_sum v) + 1) (sum_is v) (prod_is w)
join_top ops.Sub v w = sides (sum_count (to_sum v) + 1) (sum_is v) (prod_is w)
join_top ops.Mul v w = sides (prod_count (to_prod v) + 1) (prod_is v) (unary_is w)
join_top ops.Div v w = sides (prod_count (to_prod v) + 1) (prod_is v) (unary_is w)

-- how many signs it has then

pub signs_on : (op : BinaryOp) (v w : Written) → goes_on_at op (level v) ≡ true → signs (join op v w) ≡ signs v + 1
signs_on ops.Or (at_or d) w h = refl
signs_on ops.Or (at_and d) w h = cc
signs_on ops.Or (at_cmp d) w h = cc
signs_on ops.Or (at_sum d) w h = cc
signs_on ops.Or (at_prod d) w h = cc
signs_on ops.Or (at_unary d) w h = cc
signs_on ops.And (at_and d) w h = refl
signs_on ops.And (at_or d) w h = cc
signs_on ops.And (at_cmp d) w h = cc
signs_on ops.And (at_sum d) w h = cc
signs_on ops.And (at_prod d) w h = cc
signs_on ops.And (at_unary d) w h = cc
signs_on ops.Add (at_sum d) w h = refl
signs_on ops.Add (at_or d) w h = cc
signs_on ops.Add (at_and d) w h = cc
signs_on ops.Add (at_cmp d) w h = cc
signs_on ops.Add (at_prod d) w h = cc
signs_on ops.Add (at_unary d) w h = cc
signs_on ops.Sub (at_sum d) w h = refl
signs_on ops.Sub (at_or d) w h = cc
signs_on ops.Sub (at_and d) w h = cc
signs_on ops.Sub (at_cmp d) w h = cc
signs_on ops.Sub (at_prod d) w h = cc
signs_on ops.Sub (at_unary d) w h = cc
signs_on ops.Mul (at_prod d) w h = refl
signs_on ops.Mul (at_or d) w h = cc
signs_on ops.Mul (at_and d) w h = cc
signs_on ops.Mul (at_cmp d) w h = cc
signs_on ops.Mul (at_sum d) w h = cc
signs_on ops.Mul (at_unary d) w h = cc
signs_on ops.Div (at_prod d) w h = refl
signs_on ops.Div (at_or d) w h = cc
signs_on ops.Div (at_and d) w h = cc
signs_on ops.Div (at_cmp d) w h = cc
signs_on ops.Div (at_sum d) w h = cc
signs_on ops.Div (at_unary d) w h = cc
signs_on ops.Eq v w h = cc
signs_on ops.Ne v w h = cc
signs_on ops.Lt v w h = cc
signs_on ops.Le v w h = cc
signs_on ops.Gt v w h = cc
signs_on ops.Ge v w h = cc

pub signs_off : (op : BinaryOp) (v w : Written) → goes_on_at op (level v) ≡ false → signs (join op v w) ≡ 1
signs_off ops.Or (at_or d) w h = cc
signs_off ops.Or (at_and d) w h = refl
signs_off ops.Or (at_cmp d) w h = refl
signs_off ops.Or (at_sum d) w h = refl
signs_off ops.Or (at_prod d) w h = refl
signs_off ops.Or (at_unary d) w h = refl
signs_off ops.And (at_and d) w h = cc
signs_off ops.And (at_or d) w h = refl
signs_off ops.And (at_cmp d) w h = refl
signs_off ops.And (at_sum d) w h = refl
signs_off ops.And (at_prod d) w h = refl
signs_off ops.And (at_unary d) w h = refl
signs_off ops.Add (at_sum d) w h = cc
signs_off ops.Add (at_or d) w h = refl
signs_off ops.Add (at_and d) w h = refl
signs_off ops.Add (at_cmp d) w h = refl
signs_off ops.Add (at_prod d) w h = refl
signs_off ops.Add (at_unary d) w h = refl
signs_off ops.Sub (at_sum d) w h = cc
signs_off ops.Sub (at_or d) w h = refl
signs_off ops.Sub (at_and d) w h = refl
signs_off ops.Sub (at_cmp d) w h = refl
signs_off ops.Sub (at_prod d) w h = refl
signs_off ops.Sub (at_unary d) w h = refl
signs_off ops.Mul (at_prod d) w h = cc
signs_off ops.Mul (at_or d) w h = refl
signs_off ops.Mul (at_and d) w h = refl
signs_off ops.Mul (at_cmp d) w h = refl
signs_off ops.Mul (at_sum d) w h = refl
signs_off ops.Mul (at_unary d) w h = refl
signs_off ops.Div (at_prod d) w h = cc
signs_off ops.Div (at_or d) w h = refl
signs_off ops.Div (at_and d) w h = refl
signs_off ops.Div (at_cmp d) w h = refl
signs_off ops.Div (at_sum d) w h = refl
signs_off ops.Div (at_unary d) w h = refl
signs_off ops.Eq v w h = refl
signs_off ops.Ne v w h = refl
signs_off ops.Lt v w h = refl
signs_off ops.Le v w h = refl
signs_off ops.Gt v w h = refl
signs_off ops.Ge v w h = refl

-- the least of greater numbers
pub lesser_greater : (a b c : ℕ) → lesser (greater a c) (greater b c) ≡ greater (lesser a b) c
lesser_greater a b c = go (lesser_cases a b) (greater_cases a c) (greater_cases b c) (lesser_cases (greater a c) (greater b c)) (greater_cases (lesser a b) c)
  where
    go : ((a ≤ b) × (lesser a b ≡ a)) ⊎ ((b ≤ a) × (lesser a b ≡ b)) → ((c ≤ a) × (greater a c ≡ a)) ⊎ ((a ≤ c) × (greater a c ≡ c)) → ((c ≤ b) × (greater b c ≡ b)) ⊎ ((b ≤ c) × (greater b c ≡ c))
        → ((greater a c ≤ greater b c) × (lesser (greater a c) (greater b c) ≡ greater a c)) ⊎ ((greater b c ≤ greater a c) × (lesser (greater a c) (greater b c) ≡ greater b c))
        → ((c ≤ lesser a b) × (greater (lesser a b) c ≡ lesser a b)) ⊎ ((lesser a b ≤ c) × (greater (lesser a b) c ≡ c)) → lesser (greater a c) (greater b c) ≡ greater (lesser a b) c
    go p q r s t = grind (arith, p, q, r, s, t)

pub only_is : (n d s : ℕ) → n < 65 → s < 65 → get_or (set (replicate 65 65) n d) s 0 ≡ only_at n d s
only_is n d s l m = at_test (nat_eq n s) refl
  where
    at_test : (b : Bool) → nat_eq n s ≡ b → get_or (set (replicate 65 65) n d) s 0 ≡ cond b d 65
    at_test true e = get_or-set_at (replicate 65 65) n s d 0 (grind (arith, nat_tests)) (omega arith)
    at_test false e = get_or-set_other (replicate 65 65) n s d 0 (grind (arith, nat_tests)) ∙ get_or-replicate 65 s 65 0 m

-- the least of depths is that of the least deep way

pub lesser_assoc : (a b c : ℕ) → lesser (lesser a b) c ≡ lesser a (lesser b c)
lesser_assoc a b c = go (lesser_cases a b) (lesser_cases b c) (lesser_cases (lesser a b) c) (lesser_cases a (lesser b c))
  where
    go : ((a ≤ b) × (lesser a b ≡ a)) ⊎ ((b ≤ a) × (lesser a b ≡ b)) → ((b ≤ c) × (lesser b c ≡ b)) ⊎ ((c ≤ b) × (lesser b c ≡ c))
        → ((lesser a b ≤ c) × (lesser (lesser a b) c ≡ lesser a b)) ⊎ ((c ≤ lesser a b) × (lesser (lesser a b) c ≡ c))
        → ((a ≤ lesser b c) × (lesser a (lesser b c) ≡ a)) ⊎ ((lesser b c ≤ a) × (lesser a (lesser b c) ≡ lesser b c)) → lesser (lesser a b) c ≡ lesser a (lesser b c)
    go p q r s = grind (arith, p, q, r, s)

lesser_left : (a b : ℕ) → lesser a b ≤ a
lesser_left a b = go (lesser_cases a b)
  where
    go : ((a ≤ b) × (lesser a b ≡ a)) ⊎ ((b ≤ a) × (lesser a b ≡ b)) → lesser a b ≤ a
    go (inl p) = omega (arith, p.1)
    go (inr p) = omega (arith, p.0, p.1)

lesser_right : (a b : ℕ) → lesser a b ≤ b
lesser_right a b = go (lesser_cases a b)
  where
    go : ((a ≤ b) × (lesser a b ≡ a)) ⊎ ((b ≤ a) × (lesser a b ≡ b)) → lesser a b ≤ b
    go (inl p) = omega (arith, p.0, p.1)
    go (inr p) = omega (arith, p.1)

lesser_above : (a b k : ℕ) → k ≤ a → k ≤ b → k ≤ lesser a b
lesser_above a b k h g = go (lesser_cases a b)
  where
    go : ((a ≤ b) × (lesser a b ≡ a)) ⊎ ((b ≤ a) × (lesser a b ≡ b)) → k ≤ lesser a b
    go (inl p) = omega (arith, p.1)
    go (inr p) = omega (arith, p.1)

pub least_of_below : (t : List ℕ) (s : ℕ) → s < length t → least_of t ≤ get_or t s 0
least_of_below [] s l = absurd (omega arith)
least_of_below (n ∷ ns) zero l = lesser_left n (least_of ns)
least_of_below (n ∷ ns) (suc s) l = let a = lesser_right n (least_of ns) in let b = least_of_below ns s (omega arith) in omega (arith, a, b)

least_of_capped : (t : List ℕ) → least_of t ≤ 65
least_of_capped [] = omega arith
least_of_capped (n ∷ ns) = let a = lesser_right n (least_of ns) in let b = least_of_capped ns in omega (arith, a, b)

least_of_above : (t : List ℕ) (k : ℕ) → k ≤ 65 → ((s : ℕ) → s < length t → k ≤ get_or t s 0) → k ≤ least_of t
least_of_above [] k h f = h
least_of_above (n ∷ ns) k h f = lesser_above n (least_of ns) k (f zero (omega arith)) (least_of_above ns k h (λ s l. f (suc s) (omega arith)))

pub capped_below : (n : ℕ) → capped n ≤ 65
capped_below n = go (capped_cases n)
  where
    go : ((n ≤ 64) × (capped n ≡ n)) ⊎ ((65 ≤ n) × (capped n ≡ 65)) → capped n ≤ 65
    go (inl p) = omega (arith, p.0, p.1)
    go (inr p) = omega (arith, p.1)

capped_grows : (a b : ℕ) → a ≤ b → capped a ≤ capped b
capped_grows a b h = go (capped_cases a) (capped_cases b)
  where
    go : ((a ≤ 64) × (capped a ≡ a)) ⊎ ((65 ≤ a) × (capped a ≡ 65)) → ((b ≤ 64) × (capped b ≡ b)) ⊎ ((65 ≤ b) × (capped b ≡ 65)) → capped a ≤ capped b
    go (inl p) (inl q) = omega (arith, p.1, q.1)
    go (inl p) (inr q) = omega (arith, p.0, p.1, q.1)
    go (inr p) (inl q) = absurd (omega (arith, p.0, q.0))
    go (inr p) (inr q) = omega (arith, p.1, q.1)

test_below : (b : Bool) (m n : ℕ) → m ≤ n → n ≤ 65 → m ≤ cond b n 65
test_below true m n h g = h
test_below false m n h g = omega (arith, h, g)

-- the chosen one is no deeper than both
least_first : (w : Written) (ws : Ways) → depth (least (also w ws)) ≤ depth w
least_first w ws = at_test (nat_le (depth w) (depth (least ws))) refl
  where
    at_test : (b : Bool) → nat_le (depth w) (depth (least ws)) ≡ b → depth (cond b w (least ws)) ≤ depth w
    at_test true e = omega arith
    at_test false e = test_false (depth w) (depth (least ws)) e

pub least_rest : (w : Written) (ws : Ways) → depth (least (also w ws)) ≤ depth (least ws)
least_rest w ws = at_test (nat_le (depth w) (depth (least ws))) refl
  where
    at_test : (b : Bool) → nat_le (depth w) (depth (least ws)) ≡ b → depth (cond b w (least ws)) ≤ depth (least ws)
    at_test true e = test_true (depth w) (depth (least ws)) e
    at_test false e = omega arith

pub with_above : (ws : Ways) (s k : ℕ) → k ≤ capped (depth (least ws)) → k ≤ least_with ws s
with_above (only w) s k h = test_below (nat_eq (signs w) s) k (capped (depth w)) h (capped_below (depth w))
with_above (also w ws) s k h =
    let a = capped_grows (depth (least (also w ws))) (depth w) (least_first w ws) in
    let b = capped_grows (depth (least (also w ws))) (depth (least ws)) (least_rest w ws) in
    lesser_above (cond (nat_eq (signs w) s) (capped (depth w)) 65) (least_with ws s) k
    (test_below (nat_eq (signs w) s) k (capped (depth w)) (omega (arith, a, h)) (capped_below (depth w)))
    (with_above ws s k (omega (arith, b, h)))

-- the loops over depths

pub lesser_top : (n : ℕ) → n ≤ 65 → lesser 65 n ≡ n
lesser_top n h = go (lesser_cases 65 n)
  where
    go : ((65 ≤ n) × (lesser 65 n ≡ 65)) ⊎ ((n ≤ 65) × (lesser 65 n ≡ n)) → lesser 65 n ≡ n
    go (inl p) = omega (arith, p.0, p.1, h)
    go (inr p) = p.1

pub least_start : (t : List ℕ) → lesser 65 (least_of t) ≡ least_of t
least_start t = lesser_top (least_of t) (least_of_capped t)

pub least_next : (t : List ℕ) (i low all : ℕ) → i < length t → lesser low (least_of (drop i t)) ≡ all → lesser (lesser low (get_or t i 0)) (least_of (drop (i + 1) t)) ≡ all
least_next t i low all l h =
    lesser_assoc low (get_or t i 0) (least_of (drop (i + 1) t))
    ∙ ap (λ k. lesser low (lesser (get_or t i 0) (least_of (drop k t)))) (add-one i)
    ∙ sym (ap (λ w. lesser low (least_of w)) (drop-cons t i 0 l)) ∙ h

drop-end : (t : List ℕ) (i : ℕ) → length t ≤ i → drop i t ≡ []
drop-end [] zero l = refl
drop-end [] (suc i) l = refl
drop-end (x ∷ t) zero l = absurd (omega arith)
drop-end (x ∷ t) (suc i) l = drop-end t i (omega arith)

pub least_end : (t : List ℕ) (i low all : ℕ) → length t ≤ i → low ≤ 65 → lesser low (least_of (drop i t)) ≡ all → low ≡ all
least_end t i low all l h e = sym (at_end (lesser_cases low 65)) ∙ sym (ap (λ w. lesser low (least_of w)) (drop-end t i l)) ∙ e
  where
    at_end : ((low ≤ 65) × (lesser low 65 ≡ low)) ⊎ ((65 ≤ low) × (lesser low 65 ≡ 65)) → lesser low 65 ≡ low
    at_end (inl p) = p.1
    at_end (inr p) = omega (arith, p.0, p.1, h)

pub least_most : (t : List ℕ) → least_of t ≤ 65
least_most t = least_of_capped t

pub lesser_most : (a b : ℕ) → a ≤ 65 → lesser a b ≤ 65
lesser_most a b h = let e = lesser_left a b in omega (arith, e, h)

pub longer_start : (t : List ℕ) (r s : ℕ) → s < 1 → get_or (replicate 65 65) s 0 ≡ longer_at t r s
longer_start t r zero l = get_or-replicate 65 0 65 0 (omega arith)
longer_start t r (suc s) l = absurd (omega arith)

at_pred : (t : List ℕ) (r i : ℕ) → 1 ≤ i → greater (get_or t (i - 1) 0) (capped (i + r)) ≡ longer_at t r i
at_pred t r zero l = absurd (omega arith)
at_pred t r (suc j) l = let e : suc j - 1 ≡ j = omega arith in rw e refl

pub longer_next : (t xs : List ℕ) (r i v : ℕ) → 1 ≤ i → i < length xs → ((s : ℕ) → s < i → get_or xs s 0 ≡ longer_at t r s) → v ≡ greater (get_or t (i - 1) 0) (capped (i + r))
    → (s : ℕ) → s < i + 1 → get_or (set xs i v) s 0 ≡ longer_at t r s
longer_next t xs r i v h l f e s m = at_test (nat_eq s i) refl
  where
    at_test : (b : Bool) → nat_eq s i ≡ b → get_or (set xs i v) s 0 ≡ longer_at t r s
    at_test true g = let k : s ≡ i = grind (arith, nat_tests) in get_or-set_at xs i s v 0 k l ∙ e ∙ at_pred t r i h ∙ ap (longer_at t r) (sym k)
    at_test false g = get_or-set_other xs i s v 0 (grind (arith, nat_tests)) ∙ f s (grind (arith, nat_tests))

-- the least of the depths is that of the least deep way

signs_or : (d : Expr) → or_count d ≤ expr_top d
signs_or (one_and a) = omega arith
signs_or (or e s a) = let h = right_below (expr_top e) (or_count e + 1 + and_top a) (expr_top (or e s a)) (omega arith) in omega (arith, h)

signs_and : (d : And) → and_count d ≤ and_top d
signs_and (one_cmp c) = omega arith
signs_and (and a s c) = let h = right_below (and_top a) (and_count a + 1 + cmp_top c) (and_top (and a s c)) (omega arith) in omega (arith, h)

signs_sum : (d : Sum) → sum_count d ≤ sum_top d
signs_sum (one_prod p) = omega arith
signs_sum (plus a s p) = let h = right_below (sum_top a) (sum_count a + 1 + prod_top p) (sum_top (plus a s p)) (omega arith) in omega (arith, h)
signs_sum (minus a s p) = let h = right_below (sum_top a) (sum_count a + 1 + prod_top p) (sum_top (minus a s p)) (omega arith) in omega (arith, h)

signs_prod : (d : Prod) → prod_count d ≤ prod_top d
signs_prod (one_unary u) = omega arith
signs_prod (times p s u) = let h = right_below (prod_top p) (prod_count p + 1 + unary_top u) (prod_top (times p s u)) (omega arith) in omega (arith, h)
signs_prod (over p s u) = let h = right_below (prod_top p) (prod_count p + 1 + unary_top u) (prod_top (over p s u)) (omega arith) in omega (arith, h)

pub signs_below : (w : Written) → signs w ≤ top_of w
signs_below (at_or d) = signs_or d
signs_below (at_and d) = signs_and d
signs_below (at_cmp (one_sum d)) = omega arith
signs_below (at_cmp (compare c d s e)) = let h = right_below (sum_top d) (1 + sum_top e) (cmp_top (compare c d s e)) (omega arith) in omega (arith, h)
signs_below (at_sum d) = signs_sum d
signs_below (at_prod d) = signs_prod d
signs_below (at_unary d) = omega arith

pub same_is : (n : ℕ) → nat_eq n n ≡ true
same_is n = grind (arith, nat_tests)

pub with_below : (ws : Ways) → least_with ws (signs (least ws)) ≤ capped (depth (least ws))
with_below (only w) = let e = ap (λ b. cond b (capped (depth w)) 65) (same_is (signs w)) in omega (arith, e)
with_below (also w ws) = at_test (nat_le (depth w) (depth (least ws))) (with_below ws)
  where
    at_test : (b : Bool) → least_with ws (signs (least ws)) ≤ capped (depth (least ws)) → least_with (also w ws) (signs (cond b w (least ws))) ≤ capped (depth (cond b w (least ws)))
    at_test true h =
        let e = ap (λ b. cond b (capped (depth w)) 65) (same_is (signs w)) in
        let f = lesser_left (cond (nat_eq (signs w) (signs w)) (capped (depth w)) 65) (least_with ws (signs w)) in
        omega (arith, e, f)
    at_test false h =
        let f = lesser_right (cond (nat_eq (signs w) (signs (least ws))) (capped (depth w)) 65) (least_with ws (signs (least ws))) in
        omega (arith, f, h)

pub lowest_is : (t : List ℕ) (ws : Ways) → length t ≡ 65 → AreDepths t ws → least_of t ≡ capped (depth (least ws))
lowest_is t ws l h = go (capped_cases (depth (least ws)))
  where
    above : capped (depth (least ws)) ≤ least_of t
    above = least_of_above t (capped (depth (least ws))) (capped_below (depth (least ws))) (λ s m. let e = h s (omega (arith, l, m)) in let a = with_above ws s (capped (depth (least ws))) (omega arith) in omega (arith, e, a))

    go : ((depth (least ws) ≤ 64) × (capped (depth (least ws)) ≡ depth (least ws))) ⊎ ((65 ≤ depth (least ws)) × (capped (depth (least ws)) ≡ 65)) → least_of t ≡ capped (depth (least ws))
    go (inl p) =
        let a = signs_below (least ws) in
        let b = depth_is (least ws) in
        let m : signs (least ws) < 65 = omega (arith, a, b, p.0) in
        let e = h (signs (least ws)) m in
        let f = with_below ws in
        let k = least_of_below t (signs (least ws)) (omega (arith, l, m)) in
        omega (arith, above, e, f, k)
    go (inr p) = let a = least_of_capped t in omega (arith, above, a, p.1)
