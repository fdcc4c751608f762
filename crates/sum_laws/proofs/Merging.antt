-- The rows of a table, made from terms in order: what stays true from term to term.
use Rattle.std.proofs.Common.{◌≡◌, ℕ, zero, suc, Bool, true, false, cond, List, [], ◌∷◌, ◌++◌, take, get_or, All, inl, inr, refl, ap, sym, ◌∙◌, subst, append_assoc}
use Rattle.std.proofs.lemmas.List.Elements.{All-nil, All-cons, All-head, All-tail, All-push, All-take}
use Rattle.amp_core.specs.declared.Amp.{Amp}
use Rattle.amp_core.specs.Amplitude.{none, plus}
use Rattle.amp_core.specs.Size.{Small}
use Rattle.amp_core.proofs.Amplitudes.{plus_assoc, plus-none}
use Rattle.sum_laws.specs.Terms.{same_bits, amplitude}
use Rattle.sum_laws.specs.Table.{bits_below, Ascending, TableOf}
use Rattle.sum_laws.specs.Partial.{PartialSumsSmall}
use Rattle.sum_laws.specs.InOrder.{NeverFalling, AddsRow}
use Rattle.sum_laws.proofs.TermLists.{same_bits-refl, same_bits-equal, amplitude-append}
use Rattle.sum_laws.proofs.Linear.{bool_cases}
use Rattle.sum_laws.proofs.Order.{below_trans, above_from, below_upper}
use Rattle.sum_laws.proofs.Tables.{Above, AreRows, absent, AreRows-more, TableOf-from_sums}
use Rattle.sum_laws.proofs.Tables.AreRows.{nothing}

-- some values are closed and have their rows; sum is what the value in hand has so far, and rest are the terms to come
pub record Merging (all rows : List (List Bool × Amp)) (sum : List Bool × Amp) (rest : List (List Bool × Amp)) : Type 0 where
  pub closed : List (List Bool × Amp)
  pub rows_are : AreRows closed rows
  pub ascending : Ascending (closed ++ sum ∷ [])
  pub whole : (v : List Bool) → amplitude v (closed ++ sum ∷ rest) ≡ amplitude v all
  pub in_order : NeverFalling (sum ∷ rest)
  pub small : (v : List Bool) → PartialSumsSmall v (sum ∷ rest)

pub Merging-begin : (t : List Bool × Amp) (ts : List (List Bool × Amp)) → NeverFalling (t ∷ ts) → ((v : List Bool) → PartialSumsSmall v (t ∷ ts)) → Merging (t ∷ ts) [] t ts
Merging-begin t ts o p = record {
  closed = [];
  rows_are = nothing;
  ascending = (All-nil (Above t.0), tt);
  whole = λ v. refl;
  in_order = o;
  small = p;
}

-- ---- what the code adds is small

pub small_sum : (all rows : List (List Bool × Amp)) (s : List Bool × Amp) (rest : List (List Bool × Amp)) → Merging all rows s rest → Small s.1
small_sum all rows s rest m = All-head (λ t. same_bits t.0 s.0 ≡ true → Small t.1) s rest (m.small s.0).terms (same_bits-refl s.0)

pub small_term : (all rows : List (List Bool × Amp)) (s t : List Bool × Amp) (ts : List (List Bool × Amp)) → Merging all rows s (t ∷ ts) → Small t.1
small_term all rows s t ts m =
    All-head (λ u. same_bits u.0 t.0 ≡ true → Small u.1) t ts (All-tail (λ u. same_bits u.0 t.0 ≡ true → Small u.1) s (t ∷ ts) (m.small t.0).terms) (same_bits-refl t.0)

-- ---- a further term of the value in hand

all_values : (u : List Bool) (cs : List (List Bool × Amp)) (s : List Bool × Amp) (x : Amp) → All (Above u) (cs ++ s ∷ []) → All (Above u) (cs ++ (s.0, x) ∷ [])
all_values u [] s x h = All-cons (Above u) (s.0, x) [] (All-head (Above u) s [] h) (All-nil (Above u))
all_values u (c ∷ cs) s x h = All-cons (Above u) c (cs ++ (s.0, x) ∷ []) (All-head (Above u) c (cs ++ s ∷ []) h) (all_values u cs s x (All-tail (Above u) c (cs ++ s ∷ []) h))

ascending_values : (cs : List (List Bool × Amp)) (s : List Bool × Amp) (x : Amp) → Ascending (cs ++ s ∷ []) → Ascending (cs ++ (s.0, x) ∷ [])
ascending_values [] s x a = (All-nil (Above s.0), tt)
ascending_values (c ∷ cs) s x a = (all_values c.0 cs s x a.0, ascending_values cs s x a.1)

joined : (v : List Bool) (s t : List Bool × Amp) (ts : List (List Bool × Amp)) → t.0 ≡ s.0 → amplitude v ((s.0, plus s.1 t.1) ∷ ts) ≡ amplitude v (s ∷ t ∷ ts)
unfolding amplitude
joined v s t ts e = by_test (same_bits s.0 v) (amplitude v ts) ∙ ap (λ b. cond (same_bits s.0 v) (plus s.1 (cond b (plus t.1 (amplitude v ts)) (amplitude v ts))) (cond b (plus t.1 (amplitude v ts)) (amplitude v ts))) (ap (λ u. same_bits u v) (sym e))
  where
    by_test : (b : Bool) (z : Amp) → cond b (plus (plus s.1 t.1) z) z ≡ cond b (plus s.1 (cond b (plus t.1 z) z)) (cond b (plus t.1 z) z)
    by_test true z = plus_assoc s.1 t.1 z
    by_test false z = refl

joined_small : (v : List Bool) (s t : List Bool × Amp) (ts : List (List Bool × Amp)) → t.0 ≡ s.0 → PartialSumsSmall v (s ∷ t ∷ ts) → PartialSumsSmall v ((s.0, plus s.1 t.1) ∷ ts)
unfolding amplitude
joined_small v s t ts e h = record {
  terms =
      All-cons (λ u. same_bits u.0 v ≡ true → Small u.1) (s.0, plus s.1 t.1) ts (λ f. subst Small (two f) (h.sums 2))
      (All-tail (λ u. same_bits u.0 v ≡ true → Small u.1) t ts (All-tail (λ u. same_bits u.0 v ≡ true → Small u.1) s (t ∷ ts) h.terms));
  sums = sums;
}
  where
    two : same_bits s.0 v ≡ true → amplitude v (s ∷ t ∷ []) ≡ plus s.1 t.1
    two f = sym (joined v s t [] e) ∙ ap (λ b. cond b (plus (plus s.1 t.1) none) none) f ∙ plus-none (plus s.1 t.1)

    sums : (j : ℕ) → Small (amplitude v (take j ((s.0, plus s.1 t.1) ∷ ts)))
    sums zero = h.sums 0
    sums (suc j) = subst Small (sym (joined v s t (take j ts) e)) (h.sums (suc (suc j)))

pub Merging-same : (all rows : List (List Bool × Amp)) (s t : List Bool × Amp) (ts : List (List Bool × Amp)) → Merging all rows s (t ∷ ts) → t.0 ≡ s.0 → Merging all rows (s.0, plus s.1 t.1) ts
Merging-same all rows s t ts m e = record {
  closed = m.closed;
  rows_are = m.rows_are;
  ascending = ascending_values m.closed s (plus s.1 t.1) m.ascending;
  whole = λ v.
      amplitude-append v m.closed ((s.0, plus s.1 t.1) ∷ ts)
      ∙ ap (plus (amplitude v m.closed)) (joined v s t ts e)
      ∙ sym (amplitude-append v m.closed (s ∷ t ∷ ts))
      ∙ m.whole v;
  in_order = (All-tail (λ u. bits_below u.0 s.0 ≡ false) t ts m.in_order.0, m.in_order.1.1);
  small = λ v. joined_small v s t ts e (m.small v);
}

-- ---- a term of the next value

all_last : (u : List Bool) (cs : List (List Bool × Amp)) (s : List Bool × Amp) → All (Above u) (cs ++ s ∷ []) → bits_below u s.0 ≡ true
all_last u [] s h = All-head (Above u) s [] h
all_last u (c ∷ cs) s h = all_last u cs s (All-tail (Above u) c (cs ++ s ∷ []) h)

ascending_push : (cs : List (List Bool × Amp)) (s t : List Bool × Amp) → Ascending (cs ++ s ∷ []) → bits_below s.0 t.0 ≡ true → Ascending ((cs ++ s ∷ []) ++ t ∷ [])
ascending_push [] s t a b = (All-cons (Above s.0) t [] b (All-nil (Above s.0)), (All-nil (Above t.0), tt))
ascending_push (c ∷ cs) s t a b = (
  All-push (Above c.0) (cs ++ s ∷ []) t a.0 (below_trans c.0 s.0 t.0 (all_last c.0 cs s a.0) b),
  ascending_push cs s t a.1 b,
)

-- all terms to come are above the value in hand
all_above : (s t : List Bool × Amp) (ts : List (List Bool × Amp)) → bits_below s.0 t.0 ≡ true → All (λ u. bits_below u.0 t.0 ≡ false) ts → All (Above s.0) (t ∷ ts)
all_above s t ts b h = All-cons (Above s.0) t ts b (λ k d l. below_upper s.0 t.0 (get_or ts k d).0 b (h k d l))

next_small : (v : List Bool) (s t : List Bool × Amp) (ts : List (List Bool × Amp)) → All (Above s.0) (t ∷ ts) → PartialSumsSmall v (s ∷ t ∷ ts) → PartialSumsSmall v (t ∷ ts)
unfolding amplitude
next_small v s t ts a h = record {
  terms = All-tail (λ u. same_bits u.0 v ≡ true → Small u.1) s (t ∷ ts) h.terms;
  sums = λ j. elim (bool_cases (same_bits s.0 v)) [
    | inl e ↦
        let above : All (Above v) (t ∷ ts) = subst (λ u. All (Above u) (t ∷ ts)) (same_bits-equal s.0 v e) a in
        subst Small (sym (absent v (take j (t ∷ ts)) (All-take (Above v) j (t ∷ ts) above))) (h.sums 0)
    | inr e ↦ subst Small (ap (λ b. cond b (plus s.1 (amplitude v (take j (t ∷ ts)))) (amplitude v (take j (t ∷ ts)))) e) (h.sums (suc j))
  ];
}

pub Merging-next : (all rows more : List (List Bool × Amp)) (s t : List Bool × Amp) (ts : List (List Bool × Amp)) → Merging all rows s (t ∷ ts) → same_bits t.0 s.0 ≡ false → AddsRow s rows more → Merging all more t ts
Merging-next all rows more s t ts m e r =
    let b : bits_below s.0 t.0 ≡ true = above_from t.0 s.0 (All-head (λ u. bits_below u.0 s.0 ≡ false) t ts m.in_order.0) e in
    record {
      closed = m.closed ++ s ∷ [];
      rows_are = AreRows-more s m.closed rows more m.rows_are r;
      ascending = ascending_push m.closed s t m.ascending b;
      whole = λ v. ap (amplitude v) (append_assoc m.closed (s ∷ []) (t ∷ ts)) ∙ m.whole v;
      in_order = m.in_order.1;
      small = λ v. next_small v s t ts (all_above s t ts b m.in_order.1.0) (m.small v);
    }

-- ---- the end

pub TableOf-from_merging : (all rows more : List (List Bool × Amp)) (s : List Bool × Amp) → Merging all rows s [] → AddsRow s rows more → TableOf all more
TableOf-from_merging all rows more s m r = TableOf-from_sums all (m.closed ++ s ∷ []) more (AreRows-more s m.closed rows more m.rows_are r) m.ascending m.whole

pub TableOf-nothing : TableOf [] []
TableOf-nothing = TableOf-from_sums [] [] [] nothing tt (λ v. refl)
