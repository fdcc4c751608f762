-- The depths of the ways of an expression, from those of its parts.
use Rattle.std.proofs.Common.{◌≡◌, ◌⊎◌, inl, inr, ℕ, ℤ, zero, suc, ◌+◌, ◌<◌, ◌≤◌, Bool, true, false, ◌&&◌, nat_eq, cond, List, length, get_or, set, Option, Some, None, refl, sym, ◌∙◌, ap, arith}
use Rattle.std.proofs.lemmas.Bool.Decides.{nat_tests}
use Rattle.std.proofs.lemmas.List.{get_or-set_other, get_or-set_same}
use Rattle.std.specs.Prelude.{option_map}
use Rattle.silq_tree.specs.declared.node.Spot.{Spot}
use Rattle.silq_tree.specs.declared.node.NameId.{NameId}
use Rattle.silq_tree.specs.declared.node.ExprId.{ExprId}
use Rattle.silq_tree.specs.declared.node.UnaryOp.{UnaryOp}
use Rattle.silq_tree.specs.declared.node.UnaryOp.TheVariants as unaries
use Rattle.silq_tree.specs.declared.node.ScalarNode.{ScalarNode}
use Rattle.silq_tree.specs.declared.node.Expr.TheVariants as exprs
use Rattle.silq_tree.specs.Standing.{part_of, scalar_of, expr_grown}
use Rattle.silq_grammar.specs.Grammar.{Unary, number, typed_number, place, called, paren}
use Rattle.silq_print.specs.Bare.{nowhere}
use Rattle.silq_tree.specs.declared.node.BinaryOp.{BinaryOp}
use Rattle.silq_tree.specs.declared.node.BinaryOp.TheVariants as ops
use Rattle.silq_tree.specs.Syntax as tree
use Rattle.silq_print.specs.Ways.{greater, Written, at_unary, in_parens, to_unary, signed, exprs_of, args_of, call_of, scalar_way, place_way, exprs_way, join, depth, Ways, only, also, each_way, least, goes_on, lefts, ways}
use Rattle.silq_print.specs.Levels.{left_level, right_level, goes_on_at, is_looser, top_level}
use Rattle.silq_print.specs.Styles.{nth_way, number_of}
use Rattle.silq_print.specs.Depths.{capped, low, operand_low, scalar_low, number_low, index_low, deepest, signs, lesser, least_with, least_of, only_at, longer_at, chain_at, AreDepths}
use Rattle.silq_print.specs.declared.level.Level.{Level}
use Rattle.silq_print.specs.declared.level.Level.TheVariants as l
use Rattle.silq_print.proofs.Tops.{unary_top, scalar_top, place_top, call_top, args_top, exprs_top}
use Rattle.silq_print.proofs.Chains.{top_of}
use Rattle.silq_print.proofs.WaysTexts.{level, chain_fits, unary_fits, goes_on_is, nth_level, least_level}
use Rattle.silq_print.proofs.Depths.{depth_is, capped_cases, greater_cases, lesser_cases, capped_greater, capped_behind, operand_top, unary_is, join_top, signs_on, signs_off, lesser_greater, lesser_top, lowest_is}

pub chain_tight : (ws : Ways) (ls all : List ℕ) (r v : ℕ) → length ls ≡ 65 → length all ≡ 65 → AreDepths ls ws → ((s : ℕ) → s < 65 → get_or all s 0 ≡ longer_at ls r s)
    → v ≡ lesser (get_or all 1 0) (greater (capped (1 + least_of ls)) (capped (1 + r))) → (s : ℕ) → s < 65 → get_or (set all 1 v) s 0 ≡ chain_at true ws r s
chain_tight ws ls all r v k l d f e zero m = get_or-set_other all 1 0 v 0 (λ h. omega (arith, h)) ∙ f 0 m
chain_tight ws ls all r v k l d f e (suc zero) m =
    get_or-set_same all 1 v 0 (omega (arith, l)) ∙ e
    ∙ ap (λ x. lesser x (greater (capped (1 + least_of ls)) (capped (1 + r)))) (f 1 (omega arith) ∙ ap (λ x. greater x (capped (1 + r))) (d 0 (omega arith)))
    ∙ ap (λ x. lesser (greater (least_with ws 0) (capped (1 + r))) (greater (capped (1 + x)) (capped (1 + r)))) (lowest_is ls ws k d)
chain_tight ws ls all r v k l d f e (suc (suc s)) m =
    get_or-set_other all 1 (suc (suc s)) v 0 (λ h. omega (arith, h)) ∙ f (suc (suc s)) m ∙ ap (λ x. greater x (capped (suc (suc s) + r))) (d (suc s) (omega arith))

pub operand_low_is : (own : Level) (tight : Bool) (e : tree.Expression) → operand_low own tight e ≡ operand_top own (least (ways tight e))
operand_low_is own tight e =
    ap (λ d. cond (is_looser (top_level e) own) (1 + d) d) (depth_is (least (ways tight e)))
    ∙ ap (λ m. cond (is_looser m own) (1 + top_of (least (ways tight e))) (top_of (least (ways tight e)))) (sym (least_level tight e))

pub most_with : (ws : Ways) (s : ℕ) → least_with ws s ≤ 65
most_with (only w) s = at_test (nat_eq (signs w) s) (capped_cases (depth w))
  where
    at_test : (b : Bool) → ((depth w ≤ 64) × (capped (depth w) ≡ depth w)) ⊎ ((65 ≤ depth w) × (capped (depth w) ≡ 65)) → cond b (capped (depth w)) 65 ≤ 65
    at_test true (inl p) = omega (arith, p.0, p.1)
    at_test true (inr p) = omega (arith, p.1)
    at_test false p = omega arith
most_with (also w ws) s = go (lesser_cases (cond (nat_eq (signs w) s) (capped (depth w)) 65) (least_with ws s)) (most_with ws s)
  where
    go : ((cond (nat_eq (signs w) s) (capped (depth w)) 65 ≤ least_with ws s) × (lesser (cond (nat_eq (signs w) s) (capped (depth w)) 65) (least_with ws s) ≡ cond (nat_eq (signs w) s) (capped (depth w)) 65))
        ⊎ ((least_with ws s ≤ cond (nat_eq (signs w) s) (capped (depth w)) 65) × (lesser (cond (nat_eq (signs w) s) (capped (depth w)) 65) (least_with ws s) ≡ least_with ws s))
        → least_with ws s ≤ 65 → lesser (cond (nat_eq (signs w) s) (capped (depth w)) 65) (least_with ws s) ≤ 65
    go (inl p) h = omega (arith, p.0, p.1, h)
    go (inr p) h = omega (arith, p.1, h)

over_top : (n : ℕ) → n ≤ 65 → 65 ≡ greater 65 n
over_top n h = go (greater_cases 65 n)
  where
    go : ((n ≤ 65) × (greater 65 n ≡ 65)) ⊎ ((65 ≤ n) × (greater 65 n ≡ n)) → 65 ≡ greater 65 n
    go (inl p) = sym p.1
    go (inr p) = omega (arith, p.0, p.1, h)

capped_most : (n : ℕ) → capped n ≤ 65
capped_most n = go (capped_cases n)
  where
    go : ((n ≤ 64) × (capped n ≡ n)) ⊎ ((65 ≤ n) × (capped n ≡ 65)) → capped n ≤ 65
    go (inl p) = omega (arith, p.0, p.1)
    go (inr p) = omega (arith, p.1)

lesser_swap : (a b : ℕ) → lesser a b ≡ lesser b a
lesser_swap a b = go (lesser_cases a b) (lesser_cases b a)
  where
    go : ((a ≤ b) × (lesser a b ≡ a)) ⊎ ((b ≤ a) × (lesser a b ≡ b)) → ((b ≤ a) × (lesser b a ≡ b)) ⊎ ((a ≤ b) × (lesser b a ≡ a)) → lesser a b ≡ lesser b a
    go (inl p) (inl q) = omega (arith, p.0, p.1, q.0, q.1)
    go (inl p) (inr q) = omega (arith, p.1, q.1)
    go (inr p) (inl q) = omega (arith, p.1, q.1)
    go (inr p) (inr q) = omega (arith, p.0, p.1, q.0, q.1)

-- the depth of a sign behind a chain that goes on
depth_on : (op : BinaryOp) (v w : Written) → goes_on_at op (level v) ≡ true → capped (depth (join op v w)) ≡ greater (capped (depth v)) (capped (signs (join op v w) + operand_top (right_level op) w))
depth_on op v w h =
    ap capped (depth_is (join op v w) ∙ join_top op v w
    ∙ ap (λ b. greater (cond b (1 + top_of v) (top_of v)) (signs (join op v w) + operand_top (right_level op) w)) (chain_fits op (level v) h)
    ∙ ap (λ x. greater x (signs (join op v w) + operand_top (right_level op) w)) (sym (depth_is v)))
    ∙ sym (capped_greater (depth v) (signs (join op v w) + operand_top (right_level op) w))

one_on : (op : BinaryOp) (j : ℕ) (v w : Written) → goes_on_at op (level v) ≡ true
    → cond (nat_eq (signs (join op v w)) (suc j)) (capped (depth (join op v w))) 65 ≡ greater (cond (nat_eq (signs v) j) (capped (depth v)) 65) (capped (suc j + operand_top (right_level op) w))
one_on op j v w h = at_test (nat_eq (signs v) j) refl
  where
    at_test : (b : Bool) → nat_eq (signs v) j ≡ b
        → cond (nat_eq (signs (join op v w)) (suc j)) (capped (depth (join op v w))) 65 ≡ greater (cond b (capped (depth v)) 65) (capped (suc j + operand_top (right_level op) w))
    at_test true e =
        let a = signs_on op v w h in
        let b : signs (join op v w) ≡ suc j = grind (arith, nat_tests) in
        let c : nat_eq (signs (join op v w)) (suc j) ≡ true = grind (arith, nat_tests) in
        ap (λ t. cond t (capped (depth (join op v w))) 65) c ∙ depth_on op v w h ∙ ap (λ n. greater (capped (depth v)) (capped (n + operand_top (right_level op) w))) b
    at_test false e =
        let a = signs_on op v w h in
        let c : nat_eq (signs (join op v w)) (suc j) ≡ false = grind (arith, nat_tests) in
        ap (λ t. cond t (capped (depth (join op v w))) 65) c ∙ over_top (capped (suc j + operand_top (right_level op) w)) (capped_most (suc j + operand_top (right_level op) w))

-- each of these goes on
abbrev pub AllOn : BinaryOp → Ways → Type 0
AllOn op (only w) = goes_on_at op (level w) ≡ true
AllOn op (also w ws) = (goes_on_at op (level w) ≡ true) × AllOn op ws

pub all_on : (op : BinaryOp) (m : Level) (ws : Ways) → ((k : ℕ) → level (nth_way k ws) ≡ m) → goes_on_at op m ≡ true → AllOn op ws
all_on op m (only w) f h = ap (goes_on_at op) (f 0) ∙ h
all_on op m (also w ws) f h = (ap (goes_on_at op) (f 0) ∙ h, all_on op m ws (λ k. f (suc k)) h)

each_with : (op : BinaryOp) (w : Written) (ws : Ways) (j : ℕ) → AllOn op ws
    → least_with (each_way (λ v. join op v w) ws) (suc j) ≡ greater (least_with ws j) (capped (suc j + operand_top (right_level op) w))
each_with op w (only v) j h = one_on op j v w h
each_with op w (also v ws) j h =
    ap (λ x. lesser x (least_with (each_way (λ u. join op u w) ws) (suc j))) (one_on op j v w h.0)
    ∙ ap (λ x. lesser (greater (cond (nat_eq (signs v) j) (capped (depth v)) 65) (capped (suc j + operand_top (right_level op) w))) x) (each_with op w ws j h.1)
    ∙ lesser_greater (cond (nat_eq (signs v) j) (capped (depth v)) 65) (least_with ws j) (capped (suc j + operand_top (right_level op) w))

some_signs : (op : BinaryOp) (v w : Written) → nat_eq (signs (join op v w)) 0 ≡ false
some_signs op v w = at_test (goes_on_at op (level v)) refl
  where
    at_test : (b : Bool) → goes_on_at op (level v) ≡ b → nat_eq (signs (join op v w)) 0 ≡ false
    at_test true h = let a = signs_on op v w h in grind (arith, nat_tests)
    at_test false h = let a = signs_off op v w h in grind (arith, nat_tests)

each_none : (op : BinaryOp) (w : Written) (ws : Ways) → least_with (each_way (λ v. join op v w) ws) 0 ≡ 65
each_none op w (only v) = ap (λ t. cond t (capped (depth (join op v w))) 65) (some_signs op v w)
each_none op w (also v ws) =
    ap (λ t. lesser (cond t (capped (depth (join op v w))) 65) (least_with (each_way (λ u. join op u w) ws) 0)) (some_signs op v w) ∙ ap (lesser 65) (each_none op w ws)

-- a sign behind what is no chain for it
one_off : (op : BinaryOp) (v w : Written) (s : ℕ) → goes_on_at op (level v) ≡ false
    → only_at 1 (greater (capped (operand_top (left_level op) v)) (capped (1 + operand_top (right_level op) w))) s ≡ least_with (only (join op v w)) s
one_off op v w s h =
    ap (λ d. only_at 1 d s)
    (capped_greater (operand_top (left_level op) v) (1 + operand_top (right_level op) w)
    ∙ ap (λ n. capped (greater (operand_top (left_level op) v) (n + operand_top (right_level op) w))) (sym (signs_off op v w h))
    ∙ ap capped (sym (depth_is (join op v w) ∙ join_top op v w)))
    ∙ ap (λ n. cond (nat_eq n s) (capped (depth (join op v w))) 65) (sym (signs_off op v w h))

pub single : (op : BinaryOp) (tight : Bool) (x y : tree.Expression) (s : ℕ) → goes_on_at op (top_level x) ≡ false
    → only_at 1 (greater (capped (operand_low (left_level op) tight x)) (capped (1 + operand_low (right_level op) tight y))) s
    ≡ least_with (each_way (λ w. join op w (least (ways tight y))) (lefts tight op (ways tight x))) s
single op tight x y s h =
    ap (λ d. only_at 1 (greater (capped d) (capped (1 + operand_low (right_level op) tight y))) s) (operand_low_is (left_level op) tight x)
    ∙ ap (λ d. only_at 1 (greater (capped (operand_top (left_level op) (least (ways tight x)))) (capped (1 + d))) s) (operand_low_is (right_level op) tight y)
    ∙ one_off op (least (ways tight x)) (least (ways tight y)) s (ap (goes_on_at op) (least_level tight x) ∙ h)
    ∙ at_tests tight (goes_on_is op (least (ways tight x)) ∙ ap (goes_on_at op) (least_level tight x) ∙ h)
  where
    at_tests : (c : Bool) → goes_on op (least (ways tight x)) ≡ false → least_with (only (join op (least (ways tight x)) (least (ways tight y)))) s
        ≡ least_with (each_way (λ u. join op u (least (ways tight y))) (cond (c && goes_on op (least (ways tight x))) (also (at_unary (in_parens (least (ways tight x)))) (ways tight x)) (only (least (ways tight x))))) s
    at_tests false g = refl
    at_tests true g = rw g refl

-- a sign behind a chain that goes on

only_loose : (x : tree.Expression) → ways false x ≡ only (least (ways false x))
only_loose (tree.number v at) = refl
only_loose (tree.typed_number v ty at) = refl
only_loose (tree.truth true at) = refl
only_loose (tree.truth false at) = refl
only_loose (tree.pi at) = refl
only_loose (tree.place p at) = refl
only_loose (tree.called f ss es at) = refl
only_loose (tree.tuple es at) = refl
only_loose (tree.unary op e at) = refl
only_loose (tree.binary op x y at) = refl

-- the right operand
right_is : (op : BinaryOp) (tight : Bool) (y : tree.Expression) (n : ℕ) → capped (n + capped (operand_low (right_level op) tight y)) ≡ capped (n + operand_top (right_level op) (least (ways tight y)))
right_is op tight y n = capped_behind n (operand_low (right_level op) tight y) ∙ ap (λ d. capped (n + d)) (operand_low_is (right_level op) tight y)

pub unary_off : (op : BinaryOp) → goes_on_at op l.Unary ≡ false
unary_off ops.Or = refl
unary_off ops.And = refl
unary_off ops.Eq = refl
unary_off ops.Ne = refl
unary_off ops.Lt = refl
unary_off ops.Le = refl
unary_off ops.Gt = refl
unary_off ops.Ge = refl
unary_off ops.Add = refl
unary_off ops.Sub = refl
unary_off ops.Mul = refl
unary_off ops.Div = refl

-- the way with the left operand in parentheses
parens_with : (op : BinaryOp) (v w : Written) (s : ℕ)
    → cond (nat_eq (signs (join op (at_unary (in_parens v)) w)) s) (capped (depth (join op (at_unary (in_parens v)) w))) 65
    ≡ only_at 1 (greater (capped (1 + depth v)) (capped (1 + operand_top (right_level op) w))) s
parens_with op v w s =
    sym (one_off op (at_unary (in_parens v)) w s (unary_off op))
    ∙ ap (λ b. only_at 1 (greater (capped (cond b (1 + (1 + top_of v)) (1 + top_of v))) (capped (1 + operand_top (right_level op) w))) s) (unary_fits op)
    ∙ ap (λ d. only_at 1 (greater (capped (1 + d)) (capped (1 + operand_top (right_level op) w))) s) (sym (depth_is v))

not_one : (s : ℕ) → nat_eq 1 (suc (suc s)) ≡ false
not_one s = grind (arith, nat_tests)

tight_chain : (op : BinaryOp) (v w : Written) (ws : Ways) (r s : ℕ) → v ≡ least ws → AllOn op ws → ((n : ℕ) → capped (n + r) ≡ capped (n + operand_top (right_level op) w))
    → chain_at true ws r s ≡ least_with (each_way (λ u. join op u w) (also (at_unary (in_parens v)) ws)) s
tight_chain op v w ws r zero e h f =
    sym (ap (λ x. lesser x (least_with (each_way (λ u. join op u w) ws) 0)) (parens_with op v w 0) ∙ ap (lesser 65) (each_none op w ws))
tight_chain op v w ws r (suc zero) e h f =
    ap (λ x. lesser (greater (least_with ws 0) x) (greater (capped (1 + capped (depth (least ws)))) x)) (f 1)
    ∙ ap (λ x. lesser (greater (least_with ws 0) (capped (1 + operand_top (right_level op) w))) (greater x (capped (1 + operand_top (right_level op) w)))) (capped_behind 1 (depth (least ws)) ∙ ap (λ x. capped (1 + depth x)) (sym e))
    ∙ lesser_swap (greater (least_with ws 0) (capped (1 + operand_top (right_level op) w))) (greater (capped (1 + depth v)) (capped (1 + operand_top (right_level op) w)))
    ∙ ap (λ x. lesser (greater (capped (1 + depth v)) (capped (1 + operand_top (right_level op) w))) x) (sym (each_with op w ws 0 h))
    ∙ ap (λ x. lesser x (least_with (each_way (λ u. join op u w) ws) 1)) (sym (parens_with op v w 1))
tight_chain op v w ws r (suc (suc s)) e h f =
    ap (greater (least_with ws (suc s))) (f (suc (suc s)))
    ∙ sym (each_with op w ws (suc s) h)
    ∙ sym (lesser_top (least_with (each_way (λ u. join op u w) ws) (suc (suc s))) (most_with (each_way (λ u. join op u w) ws) (suc (suc s))))
    ∙ ap (λ b. lesser (cond b (greater (capped (1 + depth v)) (capped (1 + operand_top (right_level op) w))) 65) (least_with (each_way (λ u. join op u w) ws) (suc (suc s)))) (sym (not_one s))
    ∙ ap (λ x. lesser x (least_with (each_way (λ u. join op u w) ws) (suc (suc s)))) (sym (parens_with op v w (suc (suc s))))

loose_chain : (op : BinaryOp) (v w : Written) (ws : Ways) (r s : ℕ) → ws ≡ only v → goes_on_at op (level v) ≡ true → ((n : ℕ) → capped (n + r) ≡ capped (n + operand_top (right_level op) w))
    → chain_at false ws r s ≡ least_with (only (join op v w)) s
loose_chain op v w ws r zero e h f = sym (each_none op w (only v))
loose_chain op v w ws r (suc s) e h f =
    ap (λ x. greater x (capped (suc s + r))) (ap (λ q. least_with q s) e) ∙ ap (greater (least_with (only v) s)) (f (suc s)) ∙ sym (one_on op s v w h)

pub chained : (op : BinaryOp) (tight : Bool) (x y : tree.Expression) (s : ℕ) → goes_on_at op (top_level x) ≡ true
    → chain_at tight (ways tight x) (capped (operand_low (right_level op) tight y)) s ≡ least_with (each_way (λ w. join op w (least (ways tight y))) (lefts tight op (ways tight x))) s
chained op false x y s h =
    loose_chain op (least (ways false x)) (least (ways false y)) (ways false x) (capped (operand_low (right_level op) false y)) s (only_loose x) (ap (goes_on_at op) (least_level false x) ∙ h) (right_is op false y)
chained op true x y s h = rw (goes_on_is op (least (ways true x)) ∙ ap (goes_on_at op) (least_level true x) ∙ h)
    (tight_chain op (least (ways true x)) (least (ways true y)) (ways true x) (capped (operand_low (right_level op) true y)) s refl (all_on op (top_level x) (ways true x) (λ k. nth_level true k x) h) (right_is op true y))

-- what has no sign between operands

pub leaf : (d : Unary) (x s : ℕ) → unary_top d ≡ x → only_at 0 (capped x) s ≡ least_with (only (at_unary d)) s
leaf d x s e = ap (λ y. only_at 0 (capped y) s) (sym e ∙ sym (depth_is (at_unary d)))

greater_zero : (n : ℕ) → greater n 0 ≡ n
greater_zero n = go (greater_cases n 0)
  where
    go : ((0 ≤ n) × (greater n 0 ≡ n)) ⊎ ((n ≤ 0) × (greater n 0 ≡ 0)) → greater n 0 ≡ n
    go (inl p) = p.1
    go (inr p) = omega (arith, p.0, p.1)

zero_greater : (n : ℕ) → greater 0 n ≡ n
zero_greater n = go (greater_cases 0 n)
  where
    go : ((n ≤ 0) × (greater 0 n ≡ 0)) ⊎ ((0 ≤ n) × (greater 0 n ≡ n)) → greater 0 n ≡ n
    go (inl p) = omega (arith, p.0, p.1)
    go (inr p) = p.1

one_greater : (a b : ℕ) → greater (1 + a) (1 + b) ≡ 1 + greater a b
one_greater a b = go (greater_cases a b) (greater_cases (1 + a) (1 + b))
  where
    go : ((b ≤ a) × (greater a b ≡ a)) ⊎ ((a ≤ b) × (greater a b ≡ b)) → ((1 + b ≤ 1 + a) × (greater (1 + a) (1 + b) ≡ 1 + a)) ⊎ ((1 + a ≤ 1 + b) × (greater (1 + a) (1 + b) ≡ 1 + b)) → greater (1 + a) (1 + b) ≡ 1 + greater a b
    go (inl p) (inl q) = omega (arith, p.0, p.1, q.0, q.1)
    go (inl p) (inr q) = omega (arith, p.0, p.1, q.0, q.1)
    go (inr p) (inl q) = omega (arith, p.0, p.1, q.0, q.1)
    go (inr p) (inr q) = omega (arith, p.0, p.1, q.0, q.1)

pub scalar_leaf : (tight : Bool) (ty : tree.ScalarType) → scalar_top (scalar_way tight ty) ≡ scalar_low tight ty
scalar_leaf tight tree.bit = refl
scalar_leaf tight (tree.uint e) = ap (λ n. 1 + n) (sym (depth_is (least (ways tight e))))
scalar_leaf tight (tree.int e) = ap (λ n. 1 + n) (sym (depth_is (least (ways tight e))))

deepest_is : (tight : Bool) (es : tree.Expressions) → args_top (args_of (exprs_way tight es)) ≡ deepest tight es
deepest_is tight tree.none = refl
deepest_is tight (tree.more e tree.none) = sym (depth_is (least (ways tight e))) ∙ sym (greater_zero (low tight e))
deepest_is tight (tree.more e (tree.more f fs)) =
    ap (λ n. greater n (exprs_top (exprs_of (exprs_way tight (tree.more f fs))))) (sym (depth_is (least (ways tight e)))) ∙ ap (greater (low tight e)) (deepest_is tight (tree.more f fs))

call_is : (f : NameId) (tight : Bool) (ss es : tree.Expressions) → call_top (call_of f (exprs_way tight ss) (exprs_way tight es)) ≡ 1 + greater (deepest tight ss) (deepest tight es)
call_is f tight tree.none es = ap (λ n. 1 + n) (deepest_is tight es ∙ sym (zero_greater (deepest tight es)))
call_is f tight (tree.more s ss) es =
    one_greater (exprs_top (exprs_of (exprs_way tight (tree.more s ss)))) (args_top (args_of (exprs_way tight es)))
    ∙ ap (λ n. 1 + greater n (args_top (args_of (exprs_way tight es)))) (deepest_is tight (tree.more s ss)) ∙ ap (λ n. 1 + greater (deepest tight (tree.more s ss)) n) (deepest_is tight es)

pub call_leaf : (f : NameId) (tight : Bool) (ss es : tree.Expressions) (s : ℕ)
    → only_at 0 (capped (1 + greater (capped (deepest tight ss)) (capped (deepest tight es)))) s ≡ least_with (only (at_unary (called (call_of f (exprs_way tight ss) (exprs_way tight es))))) s
call_leaf f tight ss es s =
    ap (λ n. only_at 0 (capped (1 + n)) s) (capped_greater (deepest tight ss) (deepest tight es)) ∙ ap (λ n. only_at 0 n s) (capped_behind 1 (greater (deepest tight ss) (deepest tight es)))
    ∙ leaf (called (call_of f (exprs_way tight ss) (exprs_way tight es))) (1 + greater (deepest tight ss) (deepest tight es)) s (call_is f tight ss es)

tuple_is : (tight : Bool) (es : tree.Expressions) → 1 + exprs_top (exprs_of (exprs_way tight es)) ≡ 1 + deepest tight es
tuple_is tight tree.none = refl
tuple_is tight (tree.more e es) = ap (λ n. 1 + n) (deepest_is tight (tree.more e es))

pub tuple_leaf : (tight : Bool) (es : tree.Expressions) (s : ℕ) → only_at 0 (capped (1 + capped (deepest tight es))) s ≡ least_with (only (at_unary (paren nowhere (exprs_of (exprs_way tight es)) nowhere))) s
tuple_leaf tight es s = ap (λ n. only_at 0 n s) (capped_behind 1 (deepest tight es)) ∙ leaf (paren nowhere (exprs_of (exprs_way tight es)) nowhere) (1 + deepest tight es) s (tuple_is tight es)

pub unary_leaf : (op : UnaryOp) (tight : Bool) (e : tree.Expression) (s : ℕ) → only_at 0 (capped (1 + capped (operand_low l.Unary tight e))) s ≡ least_with (only (at_unary (signed op (to_unary (least (ways tight e)))))) s
unary_leaf unaries.Not tight e s =
    ap (λ n. only_at 0 n s) (capped_behind 1 (operand_low l.Unary tight e))
    ∙ leaf (signed unaries.Not (to_unary (least (ways tight e)))) (1 + operand_low l.Unary tight e) s (ap (λ n. 1 + n) (unary_is (least (ways tight e)) ∙ sym (operand_low_is l.Unary tight e)))
unary_leaf unaries.Neg tight e s =
    ap (λ n. only_at 0 n s) (capped_behind 1 (operand_low l.Unary tight e))
    ∙ leaf (signed unaries.Neg (to_unary (least (ways tight e)))) (1 + operand_low l.Unary tight e) s (ap (λ n. 1 + n) (unary_is (least (ways tight e)) ∙ sym (operand_low_is l.Unary tight e)))

place_is : (at : ExprId → tree.Expression) (tight : Bool) (x : NameId) (f g : Option ExprId) → (f ≡ None → g ≡ None)
    → greater (capped (index_low tight (option_map at f))) (capped (index_low tight (option_map at g))) ≡ capped (place_top (place_way tight (part_of at x f g)))
place_is at tight x None None h = refl
place_is at tight x None (Some j) h = cc (h refl)
place_is at tight x (Some i) None h =
    capped_greater (1 + low tight (at i)) 0 ∙ ap capped (greater_zero (1 + low tight (at i)) ∙ ap (λ n. 1 + n) (depth_is (least (ways tight (at i)))))
place_is at tight x (Some i) (Some j) h =
    capped_greater (1 + low tight (at i)) (1 + low tight (at j))
    ∙ ap (λ n. capped (greater (1 + n) (1 + low tight (at j)))) (depth_is (least (ways tight (at i)))) ∙ ap (λ n. capped (greater (1 + top_of (least (ways tight (at i)))) (1 + n))) (depth_is (least (ways tight (at j))))

pub place_leaf : (at : ExprId → tree.Expression) (tight : Bool) (x : NameId) (f g : Option ExprId) (s : ℕ) → (f ≡ None → g ≡ None)
    → only_at 0 (greater (capped (index_low tight (option_map at f))) (capped (index_low tight (option_map at g)))) s ≡ least_with (only (at_unary (place (place_way tight (part_of at x f g))))) s
place_leaf at tight x f g s h = ap (λ n. only_at 0 n s) (place_is at tight x f g h) ∙ leaf (place (place_way tight (part_of at x f g))) (place_top (place_way tight (part_of at x f g))) s refl

pub number_leaf : (at : ExprId → tree.Expression) (tight : Bool) (v : ℤ) (ty : Option ScalarNode) (spot : Spot) (s : ℕ)
    → only_at 0 (capped (number_low tight (number_of at ty))) s ≡ least_with (ways tight (expr_grown at (exprs.Number v ty spot))) s
number_leaf at tight v None spot s = leaf (number v nowhere) 0 s refl
number_leaf at tight v (Some ty) spot s = leaf (typed_number v nowhere nowhere (scalar_way tight (scalar_of at ty))) (scalar_low tight (scalar_of at ty)) s (scalar_leaf tight (scalar_of at ty))
