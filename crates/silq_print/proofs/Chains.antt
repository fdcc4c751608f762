-- Of the ways to write a chain there is one as good as any derivation: with no more signs, and no deeper.
use Rattle.std.proofs.Common.{◌≡◌, ◌⊎◌, inl, inr, ℕ, ◌+◌, ◌≤◌, nat_le, Bool, true, false, cond, List, [], ◌∷◌, refl, arith}
use Rattle.silq_tree.specs.declared.node.BinaryOp.{BinaryOp}
use Rattle.silq_grammar.specs.Nest.{expr_nests}
use Rattle.silq_print.specs.Ways.{greater, greatest, Written, at_unary, to_expr, in_parens, join, depth, Ways, only, also, each_way, least, goes_on, lefts}
use Rattle.silq_print.proofs.Tops.{AllAtMost, test_true, test_false, left_below, right_below, both_below, expr_is, expr_top}

abbrev pub top_of : Written → ℕ
top_of w = expr_top (to_expr w)

-- the depth is the greatest nest

greatest_below : (k : ℕ) (ns : List ℕ) → AllAtMost k ns → greatest ns ≤ k
greatest_below k [] h = omega arith
greatest_below k (n ∷ ns) h = both_below n (greatest ns) k h.0 (greatest_below k ns h.1)

at_most_greatest : (k : ℕ) (ns : List ℕ) → greatest ns ≤ k → AllAtMost k ns
at_most_greatest k [] h = tt
at_most_greatest k (n ∷ ns) h = (left_below n (greatest ns) k h, at_most_greatest k ns (right_below n (greatest ns) k h))

pub depth_below : (w : Written) → depth w ≤ top_of w
depth_below w = greatest_below (top_of w) (expr_nests 0 (to_expr w)) ((expr_is 0 (to_expr w)).reach (top_of w) (omega arith))

pub top_below : (w : Written) → top_of w ≤ depth w
top_below w = let h = (expr_is 0 (to_expr w)).bound (depth w) (at_most_greatest (depth w) (expr_nests 0 (to_expr w)) (omega arith)) in omega arith

-- the least deep is no deeper than each

abbrev SomeBelow : ℕ → Ways → Type 0
SomeBelow t (only w) = top_of w ≤ t
SomeBelow t (also w ws) = (top_of w ≤ t) ⊎ SomeBelow t ws

least_below : (t : ℕ) (ws : Ways) → SomeBelow t ws → top_of (least ws) ≤ t
least_below t (only w) h = h
least_below t (also w ws) h = at_test (nat_le (depth w) (depth (least ws))) refl (λ g. least_below t ws g) h
  where
    at_test : (b : Bool) → nat_le (depth w) (depth (least ws)) ≡ b → (SomeBelow t ws → top_of (least ws) ≤ t) → (top_of w ≤ t) ⊎ SomeBelow t ws → top_of (cond b w (least ws)) ≤ t
    at_test true e ih (inl g) = g
    at_test true e ih (inr g) =
        let a = test_true (depth w) (depth (least ws)) e in
        let b = depth_below (least ws) in
        let c = top_below w in
        let d = ih g in
        omega arith
    at_test false e ih (inl g) =
        let a = test_false (depth w) (depth (least ws)) e in
        let b = depth_below w in
        let c = top_below (least ws) in
        omega arith
    at_test false e ih (inr g) = ih g

-- a level of signs that chain: its derivations, and those of its operands
pub record Level (op : BinaryOp) (X Y : Type 0) : Type 0 where
  pub as_chain : Written → X
  pub as_operand : Written → Y
  pub count : X → ℕ
  pub top : X → ℕ
  pub under : Y → ℕ
  pub covers : (w : Written) → top_of w ≤ top (as_chain w)
  pub on_level : (w : Written) → goes_on op w ≡ true → top (as_chain w) ≡ top_of w
  pub parens : (w : Written) → goes_on op w ≡ true → top (as_chain (at_unary (in_parens w))) ≡ under (as_operand w)
  pub parens_count : (w : Written) → count (as_chain (at_unary (in_parens w))) ≡ 0
  pub off_level : (w : Written) → goes_on op w ≡ false → top (as_chain w) ≡ under (as_operand w)
  pub off_count : (w : Written) → goes_on op w ≡ false → count (as_chain w) ≡ 0
  pub join_goes_on : (v w : Written) → goes_on op (join op v w) ≡ true
  pub join_count : (v w : Written) → count (as_chain (join op v w)) ≡ count (as_chain v) + 1
  pub join_top : (v w : Written) → top (as_chain (join op v w)) ≡ greater (top (as_chain v)) (count (as_chain v) + 1 + under (as_operand w))

module _ {op : BinaryOp} {X Y : Type 0} (l : Level op X Y) where
  -- no more signs than c, and no deeper than t
  abbrev pub Fits : ℕ → ℕ → Written → Type 0
  Fits c t w = (l.count (l.as_chain w) ≤ c) × (l.top (l.as_chain w) ≤ t)

  abbrev pub Has : ℕ → ℕ → Ways → Type 0
  Has c t (only w) = Fits c t w
  Has c t (also w ws) = Fits c t w ⊎ Has c t ws

  pub chain_of_operand : (c t : ℕ) (ws : Ways) → l.under (l.as_operand (least ws)) ≤ t → Has c t (lefts true op ws)
  chain_of_operand c t ws h = at_test (goes_on op (least ws)) refl
    where
      at_test : (b : Bool) → goes_on op (least ws) ≡ b → Has c t (cond b (also (at_unary (in_parens (least ws))) ws) (only (least ws)))
      at_test true e = let p = l.parens (least ws) e in let q = l.parens_count (least ws) in inl (omega arith, omega arith)
      at_test false e = let p = l.off_level (least ws) e in let q = l.off_count (least ws) e in (omega arith, omega arith)

  some_below : (c t : ℕ) (ws : Ways) → Has c t ws → SomeBelow t ws
  some_below c t (only w) h = let g = l.covers w in let f = h.1 in omega arith
  some_below c t (also w ws) (inl h) = let g = l.covers w in let f = h.1 in inl (omega arith)
  some_below c t (also w ws) (inr h) = inr (some_below c t ws h)

  pub operand_of_chain : (c t : ℕ) (ws : Ways) → Has c t (lefts true op ws) → l.top (l.as_chain (least ws)) ≤ t
  operand_of_chain c t ws h = at_test (goes_on op (least ws)) refl h
    where
      at_test : (b : Bool) → goes_on op (least ws) ≡ b → Has c t (cond b (also (at_unary (in_parens (least ws))) ws) (only (least ws))) → l.top (l.as_chain (least ws)) ≤ t
      at_test true e (inl g) =
          let p = l.on_level (least ws) e in
          let q : 1 + top_of (least ws) ≤ l.top (l.as_chain (at_unary (in_parens (least ws)))) = l.covers (at_unary (in_parens (least ws))) in
          let r = g.1 in
          omega arith
      at_test true e (inr g) = let p = l.on_level (least ws) e in let q = least_below t ws (some_below c t ws g) in omega arith
      at_test false e g = g.1

  joined_fits : (c t y : ℕ) (v w : Written) → Fits c t v → l.under (l.as_operand w) ≤ y → Fits (c + 1) (greater t (c + 1 + y)) (join op v w)
  joined_fits c t y v w h g =
      let p = l.join_count v w in
      let q = l.join_top v w in
      let a = h.0 in
      let b = h.1 in
      let m = greater t (c + 1 + y) in
      let e : t ≤ m = left_below t (c + 1 + y) m (omega arith) in
      let f : c + 1 + y ≤ m = right_below t (c + 1 + y) m (omega arith) in
      let r : greater (l.top (l.as_chain v)) (l.count (l.as_chain v) + 1 + l.under (l.as_operand w)) ≤ m
      = both_below (l.top (l.as_chain v)) (l.count (l.as_chain v) + 1 + l.under (l.as_operand w)) m (omega arith) (omega arith) in
      (omega arith, omega arith)

  chain_joined : (c t y : ℕ) (ls : Ways) (w : Written) → Has c t ls → l.under (l.as_operand w) ≤ y
      → Has (c + 1) (greater t (c + 1 + y)) (each_way (λ v. join op v w) ls)
  chain_joined c t y (only v) w h g = joined_fits c t y v w h g
  chain_joined c t y (also v ls) w (inl h) g = inl (joined_fits c t y v w h g)
  chain_joined c t y (also v ls) w (inr h) g = inr (chain_joined c t y ls w h g)

  all_go_on : (ls : Ways) (w : Written) → goes_on op (least (each_way (λ v. join op v w) ls)) ≡ true
  all_go_on (only v) w = l.join_goes_on v w
  all_go_on (also v ls) w = at_test (nat_le (depth (join op v w)) (depth (least (each_way (λ u. join op u w) ls)))) (all_go_on ls w)
    where
      at_test : (b : Bool) → goes_on op (least (each_way (λ u. join op u w) ls)) ≡ true → goes_on op (cond b (join op v w) (least (each_way (λ u. join op u w) ls))) ≡ true
      at_test true e = l.join_goes_on v w
      at_test false e = e

  pub chain_step : (c t y : ℕ) (ls : Ways) (w : Written) → Has c t ls → l.under (l.as_operand w) ≤ y
      → Has (c + 1) (greater t (c + 1 + y)) (lefts true op (each_way (λ v. join op v w) ls))
  chain_step c t y ls w h g = at_test (goes_on op (least (each_way (λ v. join op v w) ls))) (all_go_on ls w) (chain_joined c t y ls w h g)
    where
      at_test : (b : Bool) → b ≡ true → Has (c + 1) (greater t (c + 1 + y)) (each_way (λ v. join op v w) ls)
          → Has (c + 1) (greater t (c + 1 + y)) (cond b (also (at_unary (in_parens (least (each_way (λ v. join op v w) ls)))) (each_way (λ v. join op v w) ls)) (only (least (each_way (λ v. join op v w) ls))))
      at_test true e f = inr f
      at_test false e f = cc
