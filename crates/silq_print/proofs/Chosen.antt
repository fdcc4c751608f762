-- The way that the depths choose: the first of the least deep ones.
use Rattle.std.proofs.Common.{◌≡◌, ◌⊎◌, inl, inr, ℕ, zero, suc, ◌+◌, ◌-◌, ◌<◌, ◌≤◌, Bool, true, false, ◌&&◌, nat_le, nat_eq, cond, List, length, get_or, refl, sym, ◌∙◌, ap, arith}
use Rattle.std.proofs.lemmas.Bool.Decides.{nat_tests}
use Rattle.silq_tree.specs.declared.node.BinaryOp.{BinaryOp}
use Rattle.silq_tree.specs.Syntax as tree
use Rattle.silq_print.specs.Ways.{Written, at_unary, in_parens, join, depth, Ways, only, also, each_way, least, goes_on, lefts, ways}
use Rattle.silq_print.specs.Levels.{goes_on_at, top_level}
use Rattle.silq_print.specs.Styles.{nth_way, fits}
use Rattle.silq_print.specs.Depths.{capped, signs, lesser, least_with, least_of, AreDepths}
use Rattle.silq_print.proofs.Tops.{test_true}
use Rattle.silq_print.proofs.WaysTexts.{goes_on_is, nth_level, least_level}
use Rattle.silq_print.proofs.Depths.{depth_is, capped_cases, lesser_cases, signs_on, signs_off, lesser_top, lowest_is, least_rest, with_below, with_above, signs_below, same_is}
use Rattle.silq_print.proofs.Deeper.{AllOn, all_on, unary_off, most_with}

-- The ways have one sign, two, and so on.
abbrev CountUp : ℕ → Ways → Type 0
CountUp k (only w) = signs w ≡ k
CountUp k (also w ws) = (signs w ≡ k) × CountUp (suc k) ws

other_signs : (w : Written) (k s : ℕ) → signs w ≡ k → k < s → cond (nat_eq (signs w) s) (capped (depth w)) 65 ≡ 65
other_signs w k s e l = let c : nat_eq (signs w) s ≡ false = grind (arith, nat_tests) in ap (λ b. cond b (capped (depth w)) 65) c

same_signs : (w : Written) (k : ℕ) → signs w ≡ k → cond (nat_eq (signs w) k) (capped (depth w)) 65 ≡ capped (depth w)
same_signs w k e = let c : nat_eq (signs w) k ≡ true = grind (arith, nat_tests) in ap (λ b. cond b (capped (depth w)) 65) c

-- no way has fewer signs
none_below : (ws : Ways) (k s : ℕ) → CountUp k ws → s < k → least_with ws s ≡ 65
none_below (only w) k s h l = let c : nat_eq (signs w) s ≡ false = grind (arith, nat_tests) in ap (λ b. cond b (capped (depth w)) 65) c
none_below (also w ws) k s h l =
    let g = h.0 in
    let c : nat_eq (signs w) s ≡ false = grind (arith, nat_tests) in
    ap (λ b. lesser (cond b (capped (depth w)) 65) (least_with ws s)) c ∙ ap (lesser 65) (none_below ws (suc k) s h.1 (omega (arith, l)))

-- the ways of a chain that goes on have one more sign
each_up : (op : BinaryOp) (w : Written) (ws : Ways) (k : ℕ) → AllOn op ws → CountUp k ws → CountUp (suc k) (each_way (λ v. join op v w) ws)
each_up op w (only v) k h c = let e = signs_on op v w h in omega (arith, e, c)
each_up op w (also v ws) k h c = let e = signs_on op v w h.0 in (omega (arith, e, c.0), each_up op w ws (suc k) h.1 c.1)

binary_up : (op : BinaryOp) (x y : tree.Expression) → (goes_on_at op (top_level x) ≡ true → CountUp 1 (ways true x))
    → CountUp 1 (each_way (λ w. join op w (least (ways true y))) (lefts true op (ways true x)))
binary_up op x y f = at_test (goes_on op (least (ways true x))) (goes_on_is op (least (ways true x)) ∙ ap (goes_on_at op) (least_level true x))
  where
    at_test : (b : Bool) → b ≡ goes_on_at op (top_level x)
        → CountUp 1 (each_way (λ w. join op w (least (ways true y))) (cond (true && b) (also (at_unary (in_parens (least (ways true x)))) (ways true x)) (only (least (ways true x)))))
    at_test true g = (
      signs_off op (at_unary (in_parens (least (ways true x)))) (least (ways true y)) (unary_off op),
      each_up op (least (ways true y)) (ways true x) 1 (all_on op (top_level x) (ways true x) (λ k. nth_level true k x) (sym g)) (f (sym g)),
    )
    at_test false g = signs_off op (least (ways true x)) (least (ways true y)) (ap (goes_on_at op) (least_level true x) ∙ sym g)

chain_up : (op : BinaryOp) (x : tree.Expression) → goes_on_at op (top_level x) ≡ true → CountUp 1 (ways true x)
chain_up op (tree.number v at) h = cc (unary_off op)
chain_up op (tree.typed_number v ty at) h = cc (unary_off op)
chain_up op (tree.truth true at) h = cc (unary_off op)
chain_up op (tree.truth false at) h = cc (unary_off op)
chain_up op (tree.pi at) h = cc (unary_off op)
chain_up op (tree.place p at) h = cc (unary_off op)
chain_up op (tree.called f ss es at) h = cc (unary_off op)
chain_up op (tree.tuple es at) h = cc (unary_off op)
chain_up op (tree.unary o e at) h = cc (unary_off op)
chain_up op (tree.binary o x y at) h = binary_up o x y (chain_up o x)

-- one way alone, or ways that count up
forms : (e : tree.Expression) → ((k : ℕ) → nth_way k (ways true e) ≡ least (ways true e)) ⊎ CountUp 1 (ways true e)
forms (tree.number v at) = inl (λ k. refl)
forms (tree.typed_number v ty at) = inl (λ k. refl)
forms (tree.truth true at) = inl (λ k. refl)
forms (tree.truth false at) = inl (λ k. refl)
forms (tree.pi at) = inl (λ k. refl)
forms (tree.place p at) = inl (λ k. refl)
forms (tree.called f ss es at) = inl (λ k. refl)
forms (tree.tuple es at) = inl (λ k. refl)
forms (tree.unary o e at) = inl (λ k. refl)
forms (tree.binary o x y at) = inr (binary_up o x y (chain_up o x))

signs_up : (ws : Ways) (k : ℕ) → CountUp k ws → k ≤ signs (least ws)
signs_up (only w) k c = omega (arith, c)
signs_up (also w ws) k c = at_test (nat_le (depth w) (depth (least ws))) (signs_up ws (suc k) c.1)
  where
    at_test : (b : Bool) → suc k ≤ signs (least ws) → k ≤ signs (cond b w (least ws))
    at_test true h = let e = c.0 in omega (arith, e)
    at_test false h = omega (arith, h)

-- the least depth with the signs of the first way, and with those of a later one

first_with : (w : Written) (ws : Ways) (k : ℕ) → CountUp k (also w ws) → least_with (also w ws) k ≡ capped (depth w)
first_with w ws k c =
    ap (λ x. lesser x (least_with ws k)) (same_signs w k c.0) ∙ ap (lesser (capped (depth w))) (none_below ws (suc k) k c.1 (omega arith))
    ∙ go (lesser_cases (capped (depth w)) 65) (capped_cases (depth w))
  where
    go : ((capped (depth w) ≤ 65) × (lesser (capped (depth w)) 65 ≡ capped (depth w))) ⊎ ((65 ≤ capped (depth w)) × (lesser (capped (depth w)) 65 ≡ 65))
        → ((depth w ≤ 64) × (capped (depth w) ≡ depth w)) ⊎ ((65 ≤ depth w) × (capped (depth w) ≡ 65)) → lesser (capped (depth w)) 65 ≡ capped (depth w)
    go (inl p) q = p.1
    go (inr p) (inl q) = absurd (omega (arith, p.0, q.0, q.1))
    go (inr p) (inr q) = p.1 ∙ sym q.1

later_with : (w : Written) (ws : Ways) (k s : ℕ) → CountUp k (also w ws) → k < s → least_with (also w ws) s ≡ least_with ws s
later_with w ws k s c l = ap (λ x. lesser x (least_with ws s)) (other_signs w k s c.0 l) ∙ lesser_top (least_with ws s) (most_with ws s)

-- the first way with the least depth is the chosen one
pick : (ws : Ways) (k s low : ℕ) → CountUp k ws → low ≡ depth (least ws) → low ≤ 64 → least_with ws (k + s) ≡ low → ((r : ℕ) → r < s → nat_eq (least_with ws (k + r)) low ≡ false) → nth_way s ws ≡ least ws
pick (only w) k s low c e m h f = refl
pick (also w ws) k zero low c e m h f = go (capped_cases (depth w))
  where
    same : capped (depth w) ≡ low
    same = let q : k + 0 ≡ k = omega arith in sym (first_with w ws k c) ∙ sym (ap (least_with (also w ws)) q) ∙ h

    go : ((depth w ≤ 64) × (capped (depth w) ≡ depth w)) ⊎ ((65 ≤ depth w) × (capped (depth w) ≡ 65)) → w ≡ least (also w ws)
    go (inl p) =
        let a = least_rest w ws in
        let l : depth w ≤ depth (least ws) = omega (arith, same, p.1, a, e) in
        let b : nat_le (depth w) (depth (least ws)) ≡ true = grind (arith, nat_tests) in
        ap (λ t. cond t w (least ws)) (sym b)
    go (inr p) = absurd (omega (arith, same, p.1, m))
pick (also w ws) k (suc s) low c e m h f = at_test (nat_le (depth w) (depth (least ws))) refl (λ a b g. pick ws (suc k) s low c.1 a m b g)
  where
    other : depth w ≡ low → false ≡ true
    other g =
        let q : k + 0 ≡ k = omega arith in
        at_cases (capped_cases (depth w)) (ap (least_with (also w ws)) q ∙ first_with w ws k c) (f 0 (omega arith))
      where
        at_cases : ((depth w ≤ 64) × (capped (depth w) ≡ depth w)) ⊎ ((65 ≤ depth w) × (capped (depth w) ≡ 65)) → least_with (also w ws) (k + 0) ≡ capped (depth w)
            → nat_eq (least_with (also w ws) (k + 0)) low ≡ false → false ≡ true
        at_cases (inl p) a b = sym b ∙ ap (λ n. nat_eq n low) (a ∙ p.1 ∙ g) ∙ same_is low
        at_cases (inr p) a b = absurd (omega (arith, p.0, g, m))

    at_test : (b : Bool) → nat_le (depth w) (depth (least ws)) ≡ b
        → (low ≡ depth (least ws) → least_with ws (suc k + s) ≡ low → ((r : ℕ) → r < s → nat_eq (least_with ws (suc k + r)) low ≡ false) → nth_way s ws ≡ least ws)
        → nth_way s ws ≡ cond b w (least ws)
    at_test true b rest = cc (other (sym (ap (λ t. depth (cond t w (least ws))) b) ∙ sym e))
    at_test false b rest =
        rest (e ∙ ap (λ t. depth (cond t w (least ws))) b) (later s (omega arith) ∙ h)
        (λ r l. ap (λ n. nat_eq n low) (later r (omega arith)) ∙ f (suc r) (omega (arith, l)))
      where
        later : (r : ℕ) → k < suc k + r → least_with ws (suc k + r) ≡ least_with (also w ws) (k + suc r)
        later r l = let q : suc k + r ≡ k + suc r = omega arith in sym (later_with w ws k (suc k + r) c l) ∙ ap (least_with (also w ws)) q

fit_low : (e : tree.Expression) → fits true e ≡ true → depth (least (ways true e)) ≤ 64
fit_low e h = test_true (depth (least (ways true e))) 64 h

low_fits : (n low : ℕ) → n ≤ 64 → low ≡ capped n → low ≡ n
low_fits n low h e = go (capped_cases n)
  where
    go : ((n ≤ 64) × (capped n ≡ n)) ⊎ ((65 ≤ n) × (capped n ≡ 65)) → low ≡ n
    go (inl p) = e ∙ p.1
    go (inr p) = absurd (omega (arith, p.0, h))

-- the first of these depths that is the least, from that with one sign
pub found : (e : tree.Expression) (t : List ℕ) (low s : ℕ) → length t ≡ 65 → AreDepths t (ways true e) → low ≡ least_of t → 1 ≤ s → s < 65 → get_or t s 0 ≡ low
    → ((r : ℕ) → 1 ≤ r → r < s → nat_eq (get_or t r 0) low ≡ false) → fits true e ≡ true → nth_way (s - 1) (ways true e) ≡ least (ways true e)
found e t low zero k d a l m g f h = absurd (omega arith)
found e t low (suc s) k d a l m g f h = go (forms e)
  where
    same : low ≡ depth (least (ways true e))
    same = low_fits (depth (least (ways true e))) low (fit_low e h) (a ∙ lowest_is t (ways true e) k d)

    go : ((n : ℕ) → nth_way n (ways true e) ≡ least (ways true e)) ⊎ CountUp 1 (ways true e) → nth_way (suc s - 1) (ways true e) ≡ least (ways true e)
    go (inl p) = p (suc s - 1)
    go (inr c) =
        let q : suc s - 1 ≡ s = omega arith in
        let b = fit_low e h in
        ap (λ n. nth_way n (ways true e)) q
        ∙ pick (ways true e) 1 s low c same (omega (arith, same, b)) (after s ∙ sym (d (suc s) m) ∙ g)
        (λ r n. ap (λ v. nat_eq v low) (after r ∙ sym (d (suc r) (omega (arith, n, m)))) ∙ f (suc r) (omega arith) (omega (arith, n)))
      where
        after : (n : ℕ) → least_with (ways true e) (1 + n) ≡ least_with (ways true e) (suc n)
        after n = let q : 1 + n ≡ suc n = omega arith in ap (least_with (ways true e)) q

-- where none of them is the least, no way fits, or there is one alone
pub unfound : (e : tree.Expression) (t : List ℕ) (low : ℕ) → length t ≡ 65 → AreDepths t (ways true e) → low ≡ least_of t
    → ((r : ℕ) → 1 ≤ r → r < 65 → nat_eq (get_or t r 0) low ≡ false) → fits true e ≡ true → nth_way 0 (ways true e) ≡ least (ways true e)
unfound e t low k d a f h = go (forms e)
  where
    go : ((n : ℕ) → nth_way n (ways true e) ≡ least (ways true e)) ⊎ CountUp 1 (ways true e) → nth_way 0 (ways true e) ≡ least (ways true e)
    go (inl p) = p 0
    go (inr c) =
        let ws = ways true e in
        let b = fit_low e h in
        let n = signs (least ws) in
        let up = signs_up ws 1 c in
        let under = signs_below (least ws) in
        let top = depth_is (least ws) in
        let l : n < 65 = omega (arith, under, top, b) in
        let is = lowest_is t ws k d in
        let below = with_below ws in
        let above = with_above ws n (capped (depth (least ws))) (omega arith) in
        let at : get_or t n 0 ≡ low = d n l ∙ omega (arith, is, below, above, a) in
        cc (sym (f n up l) ∙ ap (λ v. nat_eq v low) at ∙ same_is low)

-- one more of them that is not the least
pub none_next : (t : List ℕ) (low i j : ℕ) → ((r : ℕ) → 1 ≤ r → r < i → nat_eq (get_or t r 0) low ≡ false) → j ≡ i → (get_or t j 0 ≡ low → ⊥)
    → (r : ℕ) → 1 ≤ r → r < i + 1 → nat_eq (get_or t r 0) low ≡ false
none_next t low i j f e n r h l = at_test (nat_eq r i) refl
  where
    at_least : (b : Bool) → nat_eq (get_or t j 0) low ≡ b → b ≡ false
    at_least true g = absurd (n (grind (arith, nat_tests)))
    at_least false g = refl

    at_test : (b : Bool) → nat_eq r i ≡ b → nat_eq (get_or t r 0) low ≡ false
    at_test true g = let k : r ≡ j = grind (arith, nat_tests) in ap (λ m. nat_eq (get_or t m 0) low) k ∙ at_least (nat_eq (get_or t j 0) low) refl
    at_test false g = f r h (grind (arith, nat_tests))
