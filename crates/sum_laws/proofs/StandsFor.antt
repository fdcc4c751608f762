-- For how many single terms a term list stands: joined, rearranged, mapped by branches and merged; and that the
-- partial sums are small up to 2^50 of them.
use Rattle.std.proofs.Common.{◌≡◌, ℕ, zero, suc, ◌+◌, ◌*◌, ◌^◌, ◌≤◌, Bool, true, false, cond, List, [], ◌∷◌, ◌++◌, map, take, length, sum, All, inl, inr, ap, refl, sym, ◌∙◌, subst, arith}
use Rattle.std.specs.List.{AllZip}
use Rattle.std.proofs.Math.Nat.{mul-le-mul_left, mul-le-mul_right}
use Rattle.std.proofs.lemmas.List.Elements.{All-nil, All-cons, All-head, All-tail}
use Rattle.std.proofs.lemmas.List.Sums.{sum_by-cons, sum_by-append}
use Rattle.amp_core.specs.declared.Amp.{Amp}
use Rattle.amp_core.specs.Amplitude.{none, plus, one, times}
use Rattle.amp_core.specs.Size.{Small}
use Rattle.amp_core.proofs.Amplitudes.{times_zero}
use Rattle.sum_laws.specs.Terms.{same_bits, amplitude, Branch, branched, apply}
use Rattle.sum_laws.specs.Rearranged.{Rearranged}
use Rattle.sum_laws.specs.Rearranged.Rearranged.{nothing, keep, exchange, then}
use Rattle.sum_laws.specs.Table.{Ascending, RowOf, TableOf}
use Rattle.sum_laws.specs.Partial.{PartialSumsSmall}
use Rattle.sum_laws.specs.Units.{AllUnits, IsSumOfUnits, StandsFor, HasBranches}
use Rattle.sum_laws.proofs.TermLists.{same_bits-equal}
use Rattle.sum_laws.proofs.Linear.{bool_cases}
use Rattle.sum_laws.proofs.Order.{not_same_from_below}
use Rattle.sum_laws.proofs.Tables.{Above}
use Rattle.sum_laws.proofs.UnitSums.{sum_nothing, sum_single, sum_more, sum-plus, sum-times, sum_reduced, sum_small}

-- each term a sum of so many units
abbrev Counted : ℕ → List ℕ → List (List Bool × Amp) → Type 0
Counted h ns ts = AllZip (λ m (t : List Bool × Amp). IsSumOfUnits m h t.1) ns ts

sum-cons : (n : ℕ) (ns : List ℕ) → sum (n ∷ ns) ≡ n + sum ns
sum-cons n ns = sum_by-cons (λ x. x) n ns

pub stands_first : (v : List Bool) → StandsFor 1 0 ((v, one) ∷ [])
stands_first v = record { counts = 1 ∷ []; counted = (subst (IsSumOfUnits 1 0) (times_zero one) (sum_single 0 0), tt); few = omega arith }

pub stands_nothing : (h : ℕ) → StandsFor 0 h []
stands_nothing h = record { counts = []; counted = tt; few = omega arith }

pub stands_term : (n h : ℕ) (v : List Bool) (x : Amp) → IsSumOfUnits n h x → StandsFor n h ((v, x) ∷ [])
stands_term n h v x s = record { counts = n ∷ []; counted = (s, tt); few = (let e = sum-cons n [] in omega arith) }

counted_more : (g h : ℕ) (ns : List ℕ) (ts : List (List Bool × Amp)) → g ≤ h → Counted g ns ts → Counted h ns ts
counted_more g h [] [] l c = tt
counted_more g h [] (t ∷ ts) l c = c
counted_more g h (n ∷ ns) [] l c = c
counted_more g h (n ∷ ns) (t ∷ ts) l c = (sum_more n n g h t.1 (omega arith) l c.0, counted_more g h ns ts l c.1)

pub stands_more : (m n g h : ℕ) (ts : List (List Bool × Amp)) → m ≤ n → g ≤ h → StandsFor m g ts → StandsFor n h ts
stands_more m n g h ts l k s = record { counts = s.counts; counted = counted_more g h s.counts ts k s.counted; few = (let f = s.few in omega arith) }

-- ---- joined and rearranged

counted-append : (h : ℕ) (ms ns : List ℕ) (ts us : List (List Bool × Amp)) → Counted h ms ts → Counted h ns us → Counted h (ms ++ ns) (ts ++ us)
counted-append h [] ns [] us c d = d
counted-append h [] ns (t ∷ ts) us c d = absurd c
counted-append h (m ∷ ms) ns [] us c d = absurd c
counted-append h (m ∷ ms) ns (t ∷ ts) us c d = (c.0, counted-append h ms ns ts us c.1 d)

pub stands-append : (m n h : ℕ) (ts us : List (List Bool × Amp)) → StandsFor m h ts → StandsFor n h us → StandsFor (m + n) h (ts ++ us)
stands-append m n h ts us s t = record {
  counts = s.counts ++ t.counts;
  counted = counted-append h s.counts t.counts ts us s.counted t.counted;
  few = (let e = sum_by-append (λ (x : ℕ). x) s.counts t.counts in let f = s.few in let g = t.few in omega arith);
}

pub stands_units : (ts : List (List Bool × Amp)) → AllUnits ts → StandsFor (length ts) 50 ts
stands_units [] u = stands_nothing 50
stands_units (t ∷ ts) u =
    let one_unit : IsSumOfUnits 1 50 t.1 =
    sum_more 1 1 u.0.halvings 50 t.1 (omega arith) u.0.few (subst (IsSumOfUnits 1 u.0.halvings) (sym u.0.is) (sum_single u.0.turns u.0.halvings)) in
    stands_more (1 + length ts) (suc (length ts)) 50 50 (t ∷ ts) (omega arith) (omega arith) (stands-append 1 (length ts) 50 (t ∷ []) ts (stands_term 1 50 t.0 t.1 one_unit) (stands_units ts u.1))

-- the terms with counts of a given sum
record Recounted (h total : ℕ) (ts : List (List Bool × Amp)) : Type 0 where
  counts : List ℕ
  counted : Counted h counts ts
  same_sum : sum counts ≡ total

recounted : (h : ℕ) {ts us : List (List Bool × Amp)} → Rearranged ts us → (ns : List ℕ) → Counted h ns ts → Recounted h (sum ns) us
recounted h nothing ns c = record { counts = ns; counted = c; same_sum = refl }
recounted h (keep t {xs} {ys} p) [] c = absurd c
recounted h (keep t {xs} {ys} p) (n ∷ ns) c =
    let r : Recounted h (sum ns) ys = recounted h p ns c.1 in
    record { counts = n ∷ r.counts; counted = (c.0, r.counted); same_sum = sum-cons n r.counts ∙ ap (λ m. n + m) r.same_sum ∙ sym (sum-cons n ns) }
recounted h (exchange t u ts) [] c = absurd c
recounted h (exchange t u ts) (m ∷ []) c = absurd c.1
recounted h (exchange t u ts) (m ∷ n ∷ ns) c = record {
  counts = n ∷ m ∷ ns;
  counted = (c.1.0, (c.0, c.1.1));
  same_sum = (let a = sum-cons n (m ∷ ns) in let b = sum-cons m ns in let d = sum-cons m (n ∷ ns) in let e = sum-cons n ns in omega arith);
}
recounted h (then {xs} {ys} {zs} p q) ns c =
    let r : Recounted h (sum ns) ys = recounted h p ns c in
    let s : Recounted h (sum r.counts) zs = recounted h q r.counts r.counted in
    record { counts = s.counts; counted = s.counted; same_sum = s.same_sum ∙ r.same_sum }

pub stands_rearranged : (n h : ℕ) (ts us : List (List Bool × Amp)) → Rearranged ts us → StandsFor n h ts → StandsFor n h us
stands_rearranged n h ts us p s =
    let r : Recounted h (sum s.counts) us = recounted h p s.counts s.counted in
    record { counts = r.counts; counted = r.counted; few = (let e = r.same_sum in let f = s.few in omega arith) }

-- ---- mapped by branches

abbrev AtMostHalved : ℕ → Branch → Type 0
AtMostHalved g b = b.halvings ≤ g

one_branched : (m h g : ℕ) (x : Amp) (bs : List Branch) → All (AtMostHalved g) bs → IsSumOfUnits m h x → StandsFor (length bs * m) (h + g) (map (branched x) bs)
one_branched m h g x [] a s = stands_more 0 (0 * m) (h + g) (h + g) [] (omega arith) (omega arith) (stands_nothing (h + g))
one_branched m h g x (b ∷ bs) a s =
    let rest : StandsFor (length bs * m) (h + g) (map (branched x) bs) = one_branched m h g x bs (All-tail (AtMostHalved g) b bs a) s in
    let l : b.halvings ≤ g = All-head (AtMostHalved g) b bs a in
    record {
      counts = m ∷ rest.counts;
      counted = (sum_more m m (h + b.halvings) (h + g) (times b.eighths b.halvings x) (omega arith) (omega arith) (sum-times m h b.eighths b.halvings x s), rest.counted);
      few = (let e = sum-cons m rest.counts in let f = rest.few in omega arith);
    }

all_branched : (h b g : ℕ) (step : List Bool → List Branch) → ((u : List Bool) → HasBranches b g (step u)) → (ns : List ℕ) (ts : List (List Bool × Amp)) → Counted h ns ts → StandsFor (b * sum ns) (h + g) (apply step ts)
unfolding apply
all_branched h b g step k [] [] c = stands_more 0 (b * sum []) (h + g) (h + g) [] (omega arith) (omega arith) (stands_nothing (h + g))
all_branched h b g step k [] (t ∷ ts) c = absurd c
all_branched h b g step k (n ∷ ns) [] c = absurd c
all_branched h b g step k (n ∷ ns) (t ∷ ts) c =
    let here : StandsFor (length (step t.0) * n) (h + g) (map (branched t.1) (step t.0)) = one_branched n h g t.1 (step t.0) (k t.0).halvings c.0 in
    let rest : StandsFor (b * sum ns) (h + g) (apply step ts) = all_branched h b g step k ns ts c.1 in
    let l : length (step t.0) * n ≤ b * n = mul-le-mul_right n (k t.0).few in
    let e = sum-cons n ns in
    let d : b * sum (n ∷ ns) ≡ b * n + b * sum ns = ap (λ m. b * m) e ∙ omega arith in
    stands_more (length (step t.0) * n + b * sum ns) (b * sum (n ∷ ns)) (h + g) (h + g) (map (branched t.1) (step t.0) ++ apply step ts) (omega arith) (omega arith)
    (stands-append (length (step t.0) * n) (b * sum ns) (h + g) (map (branched t.1) (step t.0)) (apply step ts) here rest)

pub stands_branched : (n h b g : ℕ) (step : List Bool → List Branch) (ts : List (List Bool × Amp)) → ((u : List Bool) → HasBranches b g (step u)) → StandsFor n h ts → StandsFor (b * n) (h + g) (apply step ts)
stands_branched n h b g step ts k s =
    let l : b * sum s.counts ≤ b * n = mul-le-mul_left b s.few in
    stands_more (b * sum s.counts) (b * n) (h + g) (h + g) (apply step ts) l (omega arith) (all_branched h b g step k s.counts ts s.counted)

-- ---- merged

-- the counts of the terms of a value
weight : List Bool → List ℕ → List (List Bool × Amp) → ℕ
weight v [] ts = 0
weight v (n ∷ ns) [] = 0
weight v (n ∷ ns) (t ∷ ts) = cond (same_bits t.0 v) (n + weight v ns ts) (weight v ns ts)

amplitude_counted : (h : ℕ) (v : List Bool) (ns : List ℕ) (ts : List (List Bool × Amp)) → Counted h ns ts → IsSumOfUnits (weight v ns ts) h (amplitude v ts)
unfolding amplitude weight
amplitude_counted h v [] [] c = sum_nothing h
amplitude_counted h v [] (t ∷ ts) c = absurd c
amplitude_counted h v (n ∷ ns) [] c = absurd c
amplitude_counted h v (n ∷ ns) (t ∷ ts) c = by_test (same_bits t.0 v) (amplitude_counted h v ns ts c.1)
  where
    by_test : (b : Bool) → IsSumOfUnits (weight v ns ts) h (amplitude v ts) → IsSumOfUnits (cond b (n + weight v ns ts) (weight v ns ts)) h (cond b (plus t.1 (amplitude v ts)) (amplitude v ts))
    by_test true r = sum-plus n (weight v ns ts) h t.1 (amplitude v ts) c.0 r
    by_test false r = r

weights : List ℕ → List (List Bool × Amp) → List (List Bool × Amp) → List ℕ
weights ns ts [] = []
weights ns ts (r ∷ rs) = weight r.0 ns ts ∷ weights ns ts rs

rows_counted : (h : ℕ) (ns : List ℕ) (ts rows : List (List Bool × Amp)) → Counted h ns ts → All (RowOf ts) rows → Counted h (weights ns ts rows) rows
unfolding weights
rows_counted h ns ts [] c a = tt
rows_counted h ns ts (r ∷ rs) c a =
    let row : RowOf ts r = All-head (RowOf ts) r rs a in (
      sum_reduced (weight r.0 ns ts) h (amplitude r.0 ts) r.1 row.same row.reduced (amplitude_counted h r.0 ns ts c),
      rows_counted h ns ts rs c (All-tail (RowOf ts) r rs a),
    )

-- a first term counts in the row of its value alone
not_in_later : (t : List Bool × Amp) (n : ℕ) (ns : List ℕ) (ts rows : List (List Bool × Amp)) → All (Above t.0) rows → sum (weights (n ∷ ns) (t ∷ ts) rows) ≡ sum (weights ns ts rows)
unfolding weights weight
not_in_later t n ns ts [] a = refl
not_in_later t n ns ts (r ∷ rs) a =
    let e : same_bits t.0 r.0 ≡ false = not_same_from_below t.0 r.0 (All-head (Above t.0) r rs a) in
    sum-cons (weight r.0 (n ∷ ns) (t ∷ ts)) (weights (n ∷ ns) (t ∷ ts) rs)
    ∙ ap (λ b. cond b (n + weight r.0 ns ts) (weight r.0 ns ts) + sum (weights (n ∷ ns) (t ∷ ts) rs)) e
    ∙ ap (λ m. weight r.0 ns ts + m) (not_in_later t n ns ts rs (All-tail (Above t.0) r rs a))
    ∙ sym (sum-cons (weight r.0 ns ts) (weights ns ts rs))

in_one_row : (t : List Bool × Amp) (n : ℕ) (ns : List ℕ) (ts rows : List (List Bool × Amp)) → Ascending rows → sum (weights (n ∷ ns) (t ∷ ts) rows) ≤ n + sum (weights ns ts rows)
unfolding weights weight
in_one_row t n ns ts [] a = omega arith
in_one_row t n ns ts (r ∷ rs) a =
    let new = sum-cons (weight r.0 (n ∷ ns) (t ∷ ts)) (weights (n ∷ ns) (t ∷ ts) rs) in
    let old = sum-cons (weight r.0 ns ts) (weights ns ts rs) in
    elim (bool_cases (same_bits t.0 r.0)) [
      | inl e ↦
          let above : All (Above t.0) rs = subst (λ u. All (Above u) rs) (sym (same_bits-equal t.0 r.0 e)) a.0 in
          let later = not_in_later t n ns ts rs above in
          let here : weight r.0 (n ∷ ns) (t ∷ ts) ≡ n + weight r.0 ns ts = ap (λ b. cond b (n + weight r.0 ns ts) (weight r.0 ns ts)) e in
          bound (weight r.0 (n ∷ ns) (t ∷ ts)) (weight r.0 ns ts) (sum (weights (n ∷ ns) (t ∷ ts) rs)) (sum (weights ns ts rs)) (sum (weights (n ∷ ns) (t ∷ ts) (r ∷ rs))) (sum (weights ns ts (r ∷ rs))) new old here later
      | inr e ↦
          let later = in_one_row t n ns ts rs a.1 in
          let here : weight r.0 (n ∷ ns) (t ∷ ts) ≡ weight r.0 ns ts = ap (λ b. cond b (n + weight r.0 ns ts) (weight r.0 ns ts)) e in
          bound_later (weight r.0 (n ∷ ns) (t ∷ ts)) (weight r.0 ns ts) (sum (weights (n ∷ ns) (t ∷ ts) rs)) (sum (weights ns ts rs)) (sum (weights (n ∷ ns) (t ∷ ts) (r ∷ rs))) (sum (weights ns ts (r ∷ rs))) new old here later
    ]
  where
    bound : (w' w s' s all' all : ℕ) → all' ≡ w' + s' → all ≡ w + s → w' ≡ n + w → s' ≡ s → all' ≤ n + all
    bound w' w s' s all' all e f g h = omega arith

    bound_later : (w' w s' s all' all : ℕ) → all' ≡ w' + s' → all ≡ w + s → w' ≡ w → s' ≤ n + s → all' ≤ n + all
    bound_later w' w s' s all' all e f g h = omega arith

no_weight : (v : List Bool) (ns : List ℕ) → weight v ns [] ≡ 0
unfolding weight
no_weight v [] = refl
no_weight v (n ∷ ns) = refl

no_weights : (ns : List ℕ) (rows : List (List Bool × Amp)) → sum (weights ns [] rows) ≡ 0
unfolding weights
no_weights ns [] = refl
no_weights ns (r ∷ rs) =
    let e = sum-cons (weight r.0 ns []) (weights ns [] rs) in
    let f = no_weight r.0 ns in
    let g = no_weights ns rs in
    omega arith

weights_few : (h : ℕ) (ns : List ℕ) (ts rows : List (List Bool × Amp)) → Counted h ns ts → Ascending rows → sum (weights ns ts rows) ≤ sum ns
weights_few h [] [] rows c a = let e = no_weights [] rows in omega arith
weights_few h [] (t ∷ ts) rows c a = absurd c
weights_few h (n ∷ ns) [] rows c a = absurd c
weights_few h (n ∷ ns) (t ∷ ts) rows c a =
    let one_row = in_one_row t n ns ts rows a in
    let rest = weights_few h ns ts rows c.1 a in
    let e = sum-cons n ns in
    omega arith

pub stands_table : (n h : ℕ) (ts rows : List (List Bool × Amp)) → TableOf ts rows → StandsFor n h ts → StandsFor n h rows
stands_table n h ts rows t s = record {
  counts = weights s.counts ts rows;
  counted = rows_counted h s.counts ts rows s.counted t.rows_are;
  few = (let f = s.few in let g = weights_few h s.counts ts rows s.counted t.ascending in omega arith);
}

-- ---- small partial sums

part_counted : (h : ℕ) (v : List Bool) (j : ℕ) (ns : List ℕ) (ts : List (List Bool × Amp)) → Counted h ns ts → IsSumOfUnits (sum ns) h (amplitude v (take j ts))
unfolding amplitude
part_counted h v zero ns ts c = sum_more 0 (sum ns) h h none (omega arith) (omega arith) (sum_nothing h)
part_counted h v (suc j) [] [] c = sum_nothing h
part_counted h v (suc j) [] (t ∷ ts) c = absurd c
part_counted h v (suc j) (n ∷ ns) [] c = absurd c
part_counted h v (suc j) (n ∷ ns) (t ∷ ts) c = by_test (same_bits t.0 v) (part_counted h v j ns ts c.1)
  where
    by_test : (b : Bool) → IsSumOfUnits (sum ns) h (amplitude v (take j ts)) → IsSumOfUnits (sum (n ∷ ns)) h (cond b (plus t.1 (amplitude v (take j ts))) (amplitude v (take j ts)))
    by_test true r = subst (λ m. IsSumOfUnits m h (plus t.1 (amplitude v (take j ts)))) (sym (sum-cons n ns)) (sum-plus n (sum ns) h t.1 (amplitude v (take j ts)) c.0 r)
    by_test false r = let e = sum-cons n ns in sum_more (sum ns) (sum (n ∷ ns)) h h (amplitude v (take j ts)) (omega arith) (omega arith) r

terms_small : (n h : ℕ) (v : List Bool) (ns : List ℕ) (ts : List (List Bool × Amp)) → n ≤ 2 ^ 50 → h ≤ 50 → sum ns ≤ n → Counted h ns ts → All (λ t. same_bits t.0 v ≡ true → Small t.1) ts
terms_small n h v [] [] l k f c = All-nil (λ t. same_bits t.0 v ≡ true → Small t.1)
terms_small n h v [] (t ∷ ts) l k f c = absurd c
terms_small n h v (m ∷ ms) [] l k f c = absurd c
terms_small n h v (m ∷ ms) (t ∷ ts) l k f c =
    let e = sum-cons m ms in
    All-cons (λ u. same_bits u.0 v ≡ true → Small u.1) t ts (λ g. sum_small n h t.1 l k (sum_more m n h h t.1 (omega arith) (omega arith) c.0))
    (terms_small n h v ms ts l k (omega arith) c.1)

pub stands_small : (n h : ℕ) (v : List Bool) (ts : List (List Bool × Amp)) → n ≤ 2 ^ 50 → h ≤ 50 → StandsFor n h ts → PartialSumsSmall v ts
stands_small n h v ts l k s = record {
  terms = terms_small n h v s.counts ts l k s.few s.counted;
  sums = λ j. sum_small n h (amplitude v (take j ts)) l k (sum_more (sum s.counts) n h h (amplitude v (take j ts)) s.few (omega arith) (part_counted h v j s.counts ts s.counted));
}
