-- The order in which bits are shown has each qubit once.
use Rattle.std.proofs.Common.{◌≡◌, ◌≢◌, ℕ, zero, suc, ◌<◌, ◌==◌, ◌||◌, ◌⊎◌, inl, inr, Bool, true, false, not, cond, List, [], ◌∷◌, ◌++◌, map, length, get_or}
use Rattle.std.proofs.Common.{replicate, refl, ap, sym, ◌∙◌, subst, arith, eqb-true}
use Rattle.std.specs.List.{filter, list_any}
use Rattle.std.proofs.lemmas.Bool.{ne_eqb}
use Rattle.std.proofs.lemmas.Bool.Decides.{Decides-eqb}
use Rattle.sum_laws.specs.Terms.{positions, pick}
use Rattle.sum_laws.proofs.Linear.{bool_cases}
use Rattle.gate_core.specs.Local.{Absent, AllDiffer, AllBelow}
use Rattle.table_write.specs.Outs.{rest_of}

not_equal : (p q : ℕ) → (p == q) ≡ false → p ≢ q
not_equal p q e f = let d = Decides-eqb p q in let g : (p == q) ≡ true = d.1 f in absurd (cc (e, g))

-- ---- what is left of a list under a test

absent_kept : (test : ℕ → Bool) (q : ℕ) (xs : List ℕ) → Absent q xs → Absent q (filter test xs)
absent_kept test q [] h = tt
absent_kept test q (x ∷ xs) h = by (test x) (absent_kept test q xs h.1)
  where
    by : (b : Bool) → Absent q (filter test xs) → Absent q (cond b (x ∷ filter test xs) (filter test xs))
    by true k = (h.0, k)
    by false k = k

differ_kept : (test : ℕ → Bool) (xs : List ℕ) → AllDiffer xs → AllDiffer (filter test xs)
differ_kept test [] h = tt
differ_kept test (x ∷ xs) h = by (test x) (differ_kept test xs h.1)
  where
    by : (b : Bool) → AllDiffer (filter test xs) → AllDiffer (cond b (x ∷ filter test xs) (filter test xs))
    by true k = (absent_kept test x xs h.0, k)
    by false k = k

below_kept : (test : ℕ → Bool) (n : ℕ) (xs : List ℕ) → AllBelow n xs → AllBelow n (filter test xs)
below_kept test n [] h = tt
below_kept test n (x ∷ xs) h = by (test x) (below_kept test n xs h.1)
  where
    by : (b : Bool) → AllBelow n (filter test xs) → AllBelow n (cond b (x ∷ filter test xs) (filter test xs))
    by true k = (h.0, k)
    by false k = k

-- what passes the test and is not left was not there
absent_before : (test : ℕ → Bool) (q : ℕ) (xs : List ℕ) → test q ≡ true → Absent q (filter test xs) → Absent q xs
absent_before test q [] t h = tt
absent_before test q (x ∷ xs) t h =
    elim (bool_cases (test x)) [
      | inl e ↦
          let k : Absent q (x ∷ filter test xs) = subst (λ b. Absent q (cond b (x ∷ filter test xs) (filter test xs))) e h in
          (k.0, absent_before test q xs t k.1)
      | inr e ↦
          let k : Absent q (filter test xs) = subst (λ b. Absent q (cond b (x ∷ filter test xs) (filter test xs))) e h in
          ((λ f. let g : true ≡ false = sym t ∙ ap test (sym f) ∙ e in absurd (cc g)), absent_before test q xs t k)
    ]

-- ---- all positions

absent_zero : (xs : List ℕ) → Absent 0 (map suc xs)
absent_zero [] = tt
absent_zero (x ∷ xs) = ((λ e. absurd (omega (arith, e))), absent_zero xs)

absent_suc : (q : ℕ) (xs : List ℕ) → Absent q xs → Absent (suc q) (map suc xs)
absent_suc q [] h = tt
absent_suc q (x ∷ xs) h = ((λ e. h.0 (omega (arith, e))), absent_suc q xs h.1)

absent_from_suc : (q : ℕ) (xs : List ℕ) → Absent (suc q) (map suc xs) → Absent q xs
absent_from_suc q [] h = tt
absent_from_suc q (x ∷ xs) h = ((λ e. h.0 (ap suc e)), absent_from_suc q xs h.1)

differ_suc : (xs : List ℕ) → AllDiffer xs → AllDiffer (map suc xs)
differ_suc [] h = tt
differ_suc (x ∷ xs) h = (absent_suc x xs h.0, differ_suc xs h.1)

below_suc : (n : ℕ) (xs : List ℕ) → AllBelow n xs → AllBelow (suc n) (map suc xs)
below_suc n [] h = tt
below_suc n (x ∷ xs) h = (omega (arith, h.0), below_suc n xs h.1)

differ_positions : (n : ℕ) → AllDiffer (positions n)
differ_positions zero = tt
differ_positions (suc n) = (absent_zero (positions n), differ_suc (positions n) (differ_positions n))

below_positions : (n : ℕ) → AllBelow n (positions n)
below_positions zero = tt
below_positions (suc n) = (omega arith, below_suc n (positions n) (below_positions n))

in_positions : (n q : ℕ) → q < n → Absent q (positions n) → ⊥
in_positions zero q l h = absurd (omega (arith, l))
in_positions (suc n) zero l h = h.0 refl
in_positions (suc n) (suc q) l h = in_positions n q (omega (arith, l)) (absent_from_suc q (positions n) h.1)

-- ---- joined lists

absent_joined : (q : ℕ) (xs ys : List ℕ) → Absent q xs → Absent q ys → Absent q (xs ++ ys)
absent_joined q [] ys h k = k
absent_joined q (x ∷ xs) ys h k = (h.0, absent_joined q xs ys h.1 k)

absent_left : (q : ℕ) (xs ys : List ℕ) → Absent q (xs ++ ys) → Absent q xs
absent_left q [] ys h = tt
absent_left q (x ∷ xs) ys h = (h.0, absent_left q xs ys h.1)

absent_right : (q : ℕ) (xs ys : List ℕ) → Absent q (xs ++ ys) → Absent q ys
absent_right q [] ys h = h
absent_right q (x ∷ xs) ys h = absent_right q xs ys h.1

below_joined : (n : ℕ) (xs ys : List ℕ) → AllBelow n xs → AllBelow n ys → AllBelow n (xs ++ ys)
below_joined n [] ys h k = k
below_joined n (x ∷ xs) ys h k = (h.0, below_joined n xs ys h.1 k)

-- ---- the outs and the others

abbrev is_other : List ℕ → ℕ → Bool
is_other outs q = not (list_any (λ out. out == q) outs)

other_absent : (q : ℕ) (outs : List ℕ) → is_other outs q ≡ true → Absent q outs
other_absent q [] h = tt
other_absent q (p ∷ ps) h =
    elim (bool_cases (p == q)) [
      | inl e ↦ absurd (let g : false ≡ true = subst (λ b. not (b || list_any (λ out. out == q) ps) ≡ true) e h in cc g)
      | inr e ↦ (not_equal p q e, other_absent q ps (subst (λ b. not (b || list_any (λ out. out == q) ps) ≡ true) e h))
    ]

absent_other : (q : ℕ) (outs : List ℕ) → Absent q outs → is_other outs q ≡ true
absent_other q [] h = refl
absent_other q (p ∷ ps) h =
    ap (λ b. not (b || list_any (λ out. out == q) ps)) (ne_eqb p q h.0) ∙ absent_other q ps h.1

-- an out is none of the others
absent_rest : (outs : List ℕ) (p : ℕ) → ((q : ℕ) → Absent q outs → p ≢ q) → (zs : List ℕ) → Absent p (filter (is_other outs) zs)
absent_rest outs p h [] = tt
absent_rest outs p h (z ∷ zs) =
    elim (bool_cases (is_other outs z)) [
      | inl e ↦
          subst (λ b. Absent p (cond b (z ∷ filter (is_other outs) zs) (filter (is_other outs) zs))) (sym e)
          ((λ f. h z (other_absent z outs e) (sym f)), absent_rest outs p h zs)
      | inr e ↦
          subst (λ b. Absent p (cond b (z ∷ filter (is_other outs) zs) (filter (is_other outs) zs))) (sym e)
          (absent_rest outs p h zs)
    ]

differ_with_rest : (outs zs xs : List ℕ) → ((q : ℕ) → Absent q outs → Absent q xs) → AllDiffer xs → AllDiffer (filter (is_other outs) zs)
    → AllDiffer (xs ++ filter (is_other outs) zs)
differ_with_rest outs zs [] h d k = k
differ_with_rest outs zs (x ∷ xs) h d k = (
  absent_joined x xs (filter (is_other outs) zs) d.0 (absent_rest outs x (λ q a. (h q a).0) zs),
  differ_with_rest outs zs xs (λ q a. (h q a).1) d.1 k,
)

pub differ_order : (n : ℕ) (outs : List ℕ) → AllDiffer outs → AllDiffer (outs ++ rest_of n outs)
differ_order n outs d =
    differ_with_rest outs (positions n) outs (λ q a. a) d (differ_kept (is_other outs) (positions n) (differ_positions n))

pub below_order : (n : ℕ) (outs : List ℕ) → AllBelow n outs → AllBelow n (outs ++ rest_of n outs)
below_order n outs b = below_joined n outs (rest_of n outs) b (below_kept (is_other outs) n (positions n) (below_positions n))

-- no qubit is left out
pub in_order : (n : ℕ) (outs : List ℕ) (q : ℕ) → q < n → Absent q (outs ++ rest_of n outs) → ⊥
in_order n outs q l h =
    in_positions n q l
    (absent_before (is_other outs) q (positions n) (absent_other q outs (absent_left q outs (rest_of n outs) h)) (absent_right q outs (rest_of n outs) h))

-- ---- a list that has each number below n once has n numbers

abbrev is_not : ℕ → ℕ → Bool
is_not n q = not (q == n)

none_left_out : (n : ℕ) (ps : List ℕ) → Absent n ps → filter (is_not n) ps ≡ ps
none_left_out n [] h = refl
none_left_out n (p ∷ ps) h =
    ap (λ b. cond (not b) (p ∷ filter (is_not n) ps) (filter (is_not n) ps)) (ne_eqb p n h.0) ∙ ap (λ qs. p ∷ qs) (none_left_out n ps h.1)

one_left_out : (n : ℕ) (ps : List ℕ) → AllDiffer ps → (Absent n ps → ⊥) → length ps ≡ suc (length (filter (is_not n) ps))
one_left_out n [] d h = absurd (h tt)
one_left_out n (p ∷ ps) d h =
    elim (bool_cases (p == n)) [
      | inl e ↦
          let a : Absent n ps = subst (λ q. Absent q ps) (eqb-true p n e) d.0 in
          ap (λ qs. suc (length qs)) (sym (none_left_out n ps a))
          ∙ ap (λ b. suc (length (cond (not b) (p ∷ filter (is_not n) ps) (filter (is_not n) ps)))) (sym e)
      | inr e ↦
          ap suc (one_left_out n ps d.1 (λ a. h (not_equal p n e, a)))
          ∙ ap (λ b. suc (length (cond (not b) (p ∷ filter (is_not n) ps) (filter (is_not n) ps)))) (sym e)
    ]

below_left : (n : ℕ) (ps : List ℕ) → AllBelow (suc n) ps → AllBelow n (filter (is_not n) ps)
below_left n [] h = tt
below_left n (p ∷ ps) h =
    elim (bool_cases (p == n)) [
      | inl e ↦
          subst (λ b. AllBelow n (cond (not b) (p ∷ filter (is_not n) ps) (filter (is_not n) ps))) (sym e) (below_left n ps h.1)
      | inr e ↦
          let d : p ≢ n = not_equal p n e in
          let l : p < n = omega (arith, h.0, d) in
          subst (λ b. AllBelow n (cond (not b) (p ∷ filter (is_not n) ps) (filter (is_not n) ps))) (sym e) (l, below_left n ps h.1)
    ]

as_many : (n : ℕ) (ps : List ℕ) → AllDiffer ps → AllBelow n ps → ((q : ℕ) → q < n → Absent q ps → ⊥) → length ps ≡ n
as_many zero [] d b c = refl
as_many zero (p ∷ ps) d b c = absurd (omega (arith, b.0))
as_many (suc n) ps d b c =
    one_left_out n ps d (c n (omega arith))
    ∙ ap suc
    (as_many n (filter (is_not n) ps) (differ_kept (is_not n) ps d) (below_left n ps b)
    (λ q l a. c q (omega (arith, l)) (absent_before (is_not n) q ps (ap not (ne_eqb q n (omega (arith, l)))) a)))

pub length-order : (n : ℕ) (outs : List ℕ) → AllDiffer outs → AllBelow n outs → length (outs ++ rest_of n outs) ≡ n
length-order n outs d b = as_many n (outs ++ rest_of n outs) (differ_order n outs d) (below_order n outs b) (in_order n outs)

-- ---- the bits of the others

abbrev Others : ℕ → List ℕ → List ℕ → Type 0
Others n outs [] = Unit {0}
Others n outs (q ∷ qs) = (q < n) × Absent q outs × Others n outs qs

others_kept : (n : ℕ) (outs zs : List ℕ) → AllBelow n zs → Others n outs (filter (is_other outs) zs)
others_kept n outs [] h = tt
others_kept n outs (z ∷ zs) h =
    elim (bool_cases (is_other outs z)) [
      | inl e ↦
          subst (λ b. Others n outs (cond b (z ∷ filter (is_other outs) zs) (filter (is_other outs) zs))) (sym e)
          (h.0, other_absent z outs e, others_kept n outs zs h.1)
      | inr e ↦
          subst (λ b. Others n outs (cond b (z ∷ filter (is_other outs) zs) (filter (is_other outs) zs))) (sym e)
          (others_kept n outs zs h.1)
    ]

-- a qubit that is none of the outs, and whose bit is 1
abbrev pub HasOne : ℕ → List ℕ → List Bool → Type 0
HasOne n outs u = (q : ℕ) × (q < n) × Absent q outs × (get_or u q false ≡ true)

zeros_or_one : (n : ℕ) (outs : List ℕ) (u : List Bool) (qs : List ℕ) → Others n outs qs → (pick qs u ≡ replicate (length qs) false) ⊎ HasOne n outs u
zeros_or_one n outs u [] o = inl refl
zeros_or_one n outs u (q ∷ qs) o =
    elim (bool_cases (get_or u q false)) [
      | inl e ↦ inr (q, o.0, o.1, e)
      | inr e ↦ elim (zeros_or_one n outs u qs o.2) [
        | inl z ↦ inl (λ i. e i ∷ z i)
        | inr w ↦ inr w
      ]
    ]

-- all other bits are 0, or one is 1
pub rest_cases : (n : ℕ) (outs : List ℕ) (u : List Bool) → (pick (rest_of n outs) u ≡ replicate (length (rest_of n outs)) false) ⊎ HasOne n outs u
rest_cases n outs u = zeros_or_one n outs u (rest_of n outs) (others_kept n outs (positions n) (below_positions n))

first_bit : (b c : Bool) (u v : List Bool) → b ∷ u ≡ c ∷ v → b ≡ c
first_bit b c u v e = ap (λ w. get_or w 0 b) e

later_bits : (b c : Bool) (u v : List Bool) → b ∷ u ≡ c ∷ v → u ≡ v
later_bits b c u v e = ap later e
  where
    later : List Bool → List Bool
    later [] = []
    later (d ∷ w) = w

one_is_absent : (q : ℕ) (u : List Bool) (qs : List ℕ) → get_or u q false ≡ true → pick qs u ≡ replicate (length qs) false → Absent q qs
one_is_absent q u [] t e = tt
one_is_absent q u (p ∷ qs) t e = (
  (λ f. let g : get_or u p false ≡ false = first_bit (get_or u p false) false (pick qs u) (replicate (length qs) false) e in
      let k : true ≡ false = sym t ∙ ap (λ r. get_or u r false) (sym f) ∙ g in absurd (cc k)),
  one_is_absent q u qs t (later_bits (get_or u p false) false (pick qs u) (replicate (length qs) false) e),
)

-- where the other bits are 0, each is
pub rest_is_zero : (n : ℕ) (outs : List ℕ) (u : List Bool) → pick (rest_of n outs) u ≡ replicate (length (rest_of n outs)) false
    → (q : ℕ) → q < n → Absent q outs → get_or u q false ≡ false
rest_is_zero n outs u e q l a =
    elim (bool_cases (get_or u q false)) [
      | inl t ↦ absurd (in_order n outs q l (absent_joined q outs (rest_of n outs) a (one_is_absent q u (rest_of n outs) t e)))
      | inr f ↦ f
    ]

pub rest_has_no_one : (n : ℕ) (outs : List ℕ) (u : List Bool) → HasOne n outs u → pick (rest_of n outs) u ≡ replicate (length (rest_of n outs)) false → ⊥
rest_has_no_one n outs u w e =
    let z : get_or u w.0 false ≡ false = rest_is_zero n outs u e w.0 w.1 w.2 in
    let o : get_or u w.0 false ≡ true = w.3 in
    let g : true ≡ false = sym o ∙ z in cc g
