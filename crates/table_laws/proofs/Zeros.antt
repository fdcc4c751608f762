-- Term lists and tables whose values have so many zeros behind them.
use Rattle.std.proofs.Common.{◌≡◌, ℕ, zero, suc, ◌+◌, ◌<◌, inl, inr, Bool, true, false, cond, List, [], ◌∷◌, ◌++◌, length, length-append, get_or, replicate}
use Rattle.std.proofs.Common.{All, Any, refl, ap, sym, ◌∙◌, subst, arith}
use Rattle.std.proofs.lemmas.List.{get_or-map, length-map, length-replicate}
use Rattle.std.proofs.lemmas.List.Elements.{All-nil, All-cons, All-head, All-tail}
use Rattle.amp_core.specs.declared.Amp.{Amp}
use Rattle.amp_core.specs.Amplitude.{none, plus, Same}
use Rattle.amp_core.proofs.Amplitudes.{Same-refl}
use Rattle.sum_laws.specs.Terms.{same_bits, amplitude}
use Rattle.sum_laws.specs.Table.{bits_below, Ascending, RowOf, TableOf}
use Rattle.sum_laws.proofs.TermLists.{same_bits-refl, same_bits-equal}
use Rattle.sum_laws.proofs.Linear.{bool_cases}
use Rattle.gate_core.specs.Local.{HasWidth}
use Rattle.table_laws.specs.Laws.{with_zeros}

-- ---- tests of bits

-- two tests that hold of the same bits
pub same_test : (a b c d : List Bool) → (a ≡ b → c ≡ d) → (c ≡ d → a ≡ b) → same_bits a b ≡ same_bits c d
same_test a b c d f g =
    elim (bool_cases (same_bits a b)) [
      | inl e ↦
          let k : same_bits c d ≡ true = subst (λ w. same_bits c w ≡ true) (f (same_bits-equal a b e)) (same_bits-refl c) in
          e ∙ sym k
      | inr e ↦ elim (bool_cases (same_bits c d)) [
        | inl k ↦
            absurd (let t : same_bits a b ≡ true = subst (λ w. same_bits a w ≡ true) (g (same_bits-equal c d k)) (same_bits-refl a) in
            cc (e, t))
        | inr k ↦ e ∙ sym k
      ]
    ]

-- bits that differ
pub no_test : (a b : List Bool) → (a ≡ b → ⊥) → same_bits a b ≡ false
no_test a b n =
    elim (bool_cases (same_bits a b)) [
      | inl e ↦ absurd (n (same_bits-equal a b e))
      | inr e ↦ e
    ]

abbrev later_bits : List Bool → List Bool
later_bits [] = []
later_bits (b ∷ bs) = bs

-- joined bits whose first parts are as long are the same where both parts are
pub same_fronts : (u v y z : List Bool) → length u ≡ length v → u ++ y ≡ v ++ z → (u ≡ v) × (y ≡ z)
same_fronts [] [] y z l e = (refl, e)
same_fronts [] (c ∷ v) y z l e = absurd (omega (arith, l))
same_fronts (b ∷ u) [] y z l e = absurd (omega (arith, l))
same_fronts (b ∷ u) (c ∷ v) y z l e =
    let first : b ≡ c = ap (λ w. get_or w 0 b) e in
    let rest = same_fronts u v y z (omega (arith, l)) (ap later_bits e) in
    ((λ i. first i ∷ rest.0 i), rest.1)

pub same_with_zeros : (k : ℕ) (u v : List Bool) → u ++ replicate k false ≡ v ++ replicate k false → u ≡ v
same_with_zeros k u v e =
    let a = length-append u (replicate k false) in
    let b = length-append v (replicate k false) in
    let c : length (u ++ replicate k false) ≡ length (v ++ replicate k false) = ap length e in
    let l : length u ≡ length v = omega (arith, a, b, c) in
    (same_fronts u v (replicate k false) (replicate k false) l e).0

-- ---- amplitudes

pub amplitude-zeros : (k : ℕ) (w : List Bool) (ts : List (List Bool × Amp)) → amplitude (w ++ replicate k false) (with_zeros k ts) ≡ amplitude w ts
unfolding amplitude
amplitude-zeros k w [] = refl
amplitude-zeros k w (t ∷ ts) =
    ap (λ b. cond b (plus t.1 (amplitude (w ++ replicate k false) (with_zeros k ts))) (amplitude (w ++ replicate k false) (with_zeros k ts)))
    (same_test (t.0 ++ replicate k false) (w ++ replicate k false) t.0 w (same_with_zeros k t.0 w) (ap (λ v. v ++ replicate k false)))
    ∙ ap (λ x. cond (same_bits t.0 w) (plus t.1 x) x) (amplitude-zeros k w ts)

-- other bits behind a value of the same length
pub amplitude-other : (k : ℕ) (w y : List Bool) (ts : List (List Bool × Amp)) → HasWidth (length w) ts → (y ≡ replicate k false → ⊥)
    → amplitude (w ++ y) (with_zeros k ts) ≡ none
unfolding amplitude
amplitude-other k w y [] h n = refl
amplitude-other k w y (t ∷ ts) h n =
    ap (λ b. cond b (plus t.1 (amplitude (w ++ y) (with_zeros k ts))) (amplitude (w ++ y) (with_zeros k ts)))
    (no_test (t.0 ++ replicate k false) (w ++ y) (λ e. n (sym (same_fronts t.0 w (replicate k false) y h.0 e).1)))
    ∙ amplitude-other k w y ts h.1 n

-- bits of another length
pub amplitude-length : (n : ℕ) (v : List Bool) (ts : List (List Bool × Amp)) → HasWidth n ts → (length v ≡ n → ⊥) → amplitude v ts ≡ none
unfolding amplitude
amplitude-length n v [] h d = refl
amplitude-length n v (t ∷ ts) h d =
    ap (λ b. cond b (plus t.1 (amplitude v ts)) (amplitude v ts)) (no_test t.0 v (λ e. d (ap length (sym e) ∙ h.0)))
    ∙ amplitude-length n v ts h.1 d

pub width-zeros : (m k : ℕ) (ts : List (List Bool × Amp)) → HasWidth m ts → HasWidth (m + k) (with_zeros k ts)
width-zeros m k [] h = tt
width-zeros m k (t ∷ ts) h = (
  length-append t.0 (replicate k false) ∙ ap (λ a. a + length (replicate k false)) h.0 ∙ ap (λ a. m + a) (length-replicate k false),
  width-zeros m k ts h.1,
)

-- ---- the order

zeros_below : (k : ℕ) (ys : List Bool) → k < length ys → bits_below (replicate k false) ys ≡ true
zeros_below zero [] l = absurd (omega (arith, l))
zeros_below zero (c ∷ ys) l = refl
zeros_below (suc k) [] l = absurd (omega (arith, l))
zeros_below (suc k) (true ∷ ys) l = refl
zeros_below (suc k) (false ∷ ys) l = zeros_below k ys (omega (arith, l))

below-zeros : (k : ℕ) (u v : List Bool) → bits_below u v ≡ true → bits_below (u ++ replicate k false) (v ++ replicate k false) ≡ true
below-zeros k [] [] h = absurd (let g : false ≡ true = h in cc g)
below-zeros k [] (c ∷ v) h =
    let e = length-append v (replicate k false) in
    let f = length-replicate k false in
    let l : k < length (c ∷ (v ++ replicate k false)) = omega (arith, e, f) in
    zeros_below k (c ∷ (v ++ replicate k false)) l
below-zeros k (b ∷ u) [] h = by b h
  where
    by : (b : Bool) → bits_below (b ∷ u) [] ≡ true → bits_below ((b ∷ u) ++ replicate k false) ([] ++ replicate k false) ≡ true
    by b h = absurd (let g : false ≡ true = h in cc g)
below-zeros k (false ∷ u) (false ∷ v) h = below-zeros k u v h
below-zeros k (false ∷ u) (true ∷ v) h = refl
below-zeros k (true ∷ u) (false ∷ v) h = absurd (let g : false ≡ true = h in cc g)
below-zeros k (true ∷ u) (true ∷ v) h = below-zeros k u v h

above-zeros : (k : ℕ) (u : List Bool) (rs : List (List Bool × Amp)) → All (λ s. bits_below u s.0 ≡ true) rs
    → All (λ s. bits_below (u ++ replicate k false) s.0 ≡ true) (with_zeros k rs)
above-zeros k u [] h = All-nil (λ s. bits_below (u ++ replicate k false) s.0 ≡ true)
above-zeros k u (r ∷ rs) h =
    All-cons (λ s. bits_below (u ++ replicate k false) s.0 ≡ true) (r.0 ++ replicate k false, r.1) (with_zeros k rs)
    (below-zeros k u r.0 (All-head (λ s. bits_below u s.0 ≡ true) r rs h))
    (above-zeros k u rs (All-tail (λ s. bits_below u s.0 ≡ true) r rs h))

ascending-zeros : (k : ℕ) (rs : List (List Bool × Amp)) → Ascending rs → Ascending (with_zeros k rs)
ascending-zeros k [] h = tt
ascending-zeros k (r ∷ rs) h = (above-zeros k r.0 rs h.0, ascending-zeros k rs h.1)

-- ---- the table

row-zeros : (k : ℕ) (ts : List (List Bool × Amp)) (r : List Bool × Amp) → RowOf ts r → RowOf (with_zeros k ts) (r.0 ++ replicate k false, r.1)
row-zeros k ts r h = record {
  same = subst (λ x. Same r.1 x) (sym (amplitude-zeros k r.0 ts)) h.same;
  reduced = h.reduced;
  not_zero = h.not_zero;
}

rows-zeros : (k : ℕ) (ts rs : List (List Bool × Amp)) → All (RowOf ts) rs → All (RowOf (with_zeros k ts)) (with_zeros k rs)
rows-zeros k ts [] h = All-nil (RowOf (with_zeros k ts))
rows-zeros k ts (r ∷ rs) h =
    All-cons (RowOf (with_zeros k ts)) (r.0 ++ replicate k false, r.1) (with_zeros k rs)
    (row-zeros k ts r (All-head (RowOf ts) r rs h)) (rows-zeros k ts rs (All-tail (RowOf ts) r rs h))

-- what has an amplitude there ends in the zeros
ends_in_zeros : (k : ℕ) (v : List Bool) (ts : List (List Bool × Amp)) → (Same (amplitude v (with_zeros k ts)) none → ⊥)
    → (w : List Bool) × (w ++ replicate k false ≡ v)
unfolding amplitude
ends_in_zeros k v [] n = absurd (n (Same-refl none))
ends_in_zeros k v (t ∷ ts) n =
    elim (bool_cases (same_bits (t.0 ++ replicate k false) v)) [
      | inl e ↦ (t.0, same_bits-equal (t.0 ++ replicate k false) v e)
      | inr e ↦ ends_in_zeros k v ts (λ g. n (subst (λ b. Same (cond b (plus t.1 (amplitude v (with_zeros k ts))) (amplitude v (with_zeros k ts))) none)
          (sym e) g))
    ]

value-zeros : (k : ℕ) (w : List Bool) (rs : List (List Bool × Amp)) → Any (λ r. r.0 ≡ w) rs → Any (λ r. r.0 ≡ w ++ replicate k false) (with_zeros k rs)
value-zeros k w rs (i, r, l, e, p) = (
  i,
  (r.0 ++ replicate k false, r.1),
  subst (λ m. i < m) (sym (length-map rs (λ (s : List Bool × Amp). (s.0 ++ replicate k false, s.1)))) l,
  get_or-map (λ (s : List Bool × Amp). (s.0 ++ replicate k false, s.1)) rs i r (r.0 ++ replicate k false, r.1) l
      ∙ ap (λ (s : List Bool × Amp). (s.0 ++ replicate k false, s.1)) e,
  ap (λ u. u ++ replicate k false) p,
)

complete-zeros : (k : ℕ) (ts rs : List (List Bool × Amp)) → TableOf ts rs → (v : List Bool)
    → (Same (amplitude v (with_zeros k ts)) none → ⊥) → Any (λ r. r.0 ≡ v) (with_zeros k rs)
complete-zeros k ts rs h v n =
    let found = ends_in_zeros k v ts n in
    let there : Any (λ r. r.0 ≡ found.0) rs =
    h.complete found.0 (λ g.
    n (subst (λ u. Same (amplitude u (with_zeros k ts)) none) found.1 (subst (λ x. Same x none) (sym (amplitude-zeros k found.0 ts)) g))) in
    subst (λ u. Any (λ r. r.0 ≡ u) (with_zeros k rs)) found.1 (value-zeros k found.0 rs there)

-- the rows with zeros are the table of the terms with zeros
pub table-zeros : (k : ℕ) (ts rs : List (List Bool × Amp)) → TableOf ts rs → TableOf (with_zeros k ts) (with_zeros k rs)
table-zeros k ts rs h = record {
  ascending = ascending-zeros k rs h.ascending;
  rows_are = rows-zeros k ts rs h.rows_are;
  complete = complete-zeros k ts rs h;
}
