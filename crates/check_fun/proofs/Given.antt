-- The signature of a checked body gives the place of each consumed parameter on at most once.
use Rattle.std.specs.Prelude.{◌≡◌, refl, ℕ, suc, ◌+◌, ◌≤◌, Bool, true, false, cond, ◌==◌, List, [], ◌∷◌, Some, None}
use native.Mathlib.Omega.{arith}
use Rattle.check_expr.specs.Owners.{owned, consumed_weight, from_weight, returned_weight, Proper}
use Rattle.check_fun.specs.Program.{given_on, returned_as}
use Rattle.silq_types.specs.declared.signature.Param.{Param}
use Rattle.silq_types.specs.declared.types.Ty.{Ty}
use Rattle.silq_types.specs.declared.values.Value.{Value}

-- the weight of the consumed parameter at a place
abbrev weight_at : (ℕ → ℕ) → ℕ → List Param → ℕ → ℕ
weight_at w i ps place = from_weight w (given_on i ps place)

abbrev total : (ℕ → ℕ) → List Value → ℕ
total f [] = 0
total f (v ∷ vs) = f v.place + total f vs

choose-at : ℕ → ℕ → (ℕ → ℕ) → ℕ → ℕ
choose-at i k f p = cond (p == i) k (f p)

-- where no value has the place i
total-none : (i k : ℕ) (f : ℕ → ℕ) (vs : List Value) → owned i vs ≡ 0 → total (choose-at i k f) vs ≤ total f vs
unfolding choose-at
total-none i k f [] h = omega arith
total-none i k f (v ∷ vs) h = go (v.place == i) h (total-none i k f vs)
  where
    go : (b : Bool) → cond b 1 0 + owned i vs ≡ 0 → (owned i vs ≡ 0 → total (choose-at i k f) vs ≤ total f vs) → cond b k (f v.place) + total (choose-at i k f) vs ≤ f v.place + total f vs
    go true h ih = absurd (omega (arith, h))
    go false h ih = let a = ih (omega (arith, h)) in omega (arith, a)

-- where at most one has
total-one : (i k : ℕ) (f : ℕ → ℕ) (vs : List Value) → owned i vs ≤ 1 → total (choose-at i k f) vs ≤ k + total f vs
unfolding choose-at
total-one i k f [] h = omega arith
total-one i k f (v ∷ vs) h = go (v.place == i) h (total-one i k f vs) (total-none i k f vs)
  where
    go : (b : Bool) → cond b 1 0 + owned i vs ≤ 1 → (owned i vs ≤ 1 → total (choose-at i k f) vs ≤ k + total f vs) → (owned i vs ≡ 0 → total (choose-at i k f) vs ≤ total f vs) → cond b k (f v.place) + total (choose-at i k f) vs ≤ k + (f v.place + total f vs)
    go true h ih none = let a = none (omega (arith, h)) in omega (arith, a)
    go false h ih none = let a = ih (omega (arith, h)) in omega (arith, a)

weight-step : (w : ℕ → ℕ) (i : ℕ) (q : Param) (qs : List Param) (p : ℕ) → weight_at w i (q ∷ qs) p ≡ choose-at i (cond q.held 0 (w i)) (weight_at w (suc i) qs) p
unfolding choose-at
weight-step w i q qs p = go (p == i) q.held
  where
    go : (b held : Bool) → from_weight w (cond b (cond held None (Some i)) (given_on (suc i) qs p)) ≡ cond b (cond held 0 (w i)) (weight_at w (suc i) qs p)
    go true true = refl
    go true false = refl
    go false held = refl

total-same : (f g : ℕ → ℕ) (vs : List Value) → ((p : ℕ) → f p ≡ g p) → total f vs ≡ total g vs
total-same f g [] h = refl
total-same f g (v ∷ vs) h = let a = h v.place in let b = total-same f g vs h in omega (arith, a, b)

total-zero : (vs : List Value) → total (λ p. 0) vs ≡ 0
total-zero [] = refl
total-zero (v ∷ vs) = let a = total-zero vs in omega (arith, a)

total-params : (w : ℕ → ℕ) (i : ℕ) (ps : List Param) (vs : List Value) → ((p : ℕ) → owned p vs ≤ 1) → total (weight_at w i ps) vs ≤ consumed_weight w i ps
total-params w i [] vs h = let z = total-zero vs in omega (arith, z)
total-params w i (q ∷ qs) vs h =
    let a = total-same (weight_at w i (q ∷ qs)) (choose-at i (cond q.held 0 (w i)) (weight_at w (suc i) qs)) vs (weight-step w i q qs) in
    let b = total-one i (cond q.held 0 (w i)) (weight_at w (suc i) qs) vs (h i) in
    let c = total-params w (suc i) qs vs h in
    omega (arith, a, b, c)

returned-total : (w : ℕ → ℕ) (ps : List Param) (ts : List Ty) (vs : List Value) → returned_weight w (returned_as ps ts vs) ≤ total (weight_at w 0 ps) vs
returned-total w ps [] vs = omega arith
returned-total w ps (t ∷ ts) [] = omega arith
returned-total w ps (t ∷ ts) (v ∷ vs) = let a = returned-total w ps ts vs in omega (arith, a)

pub returned-proper : (ps : List Param) (ts : List Ty) (vs : List Value) → ((p : ℕ) → owned p vs ≤ 1) → Proper ps (returned_as ps ts vs)
returned-proper ps ts vs h = λ w. let a = returned-total w ps ts vs in let b = total-params w 0 ps vs h in omega (arith, a, b)
