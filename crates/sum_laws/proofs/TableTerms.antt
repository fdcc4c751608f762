-- A table has the amplitudes of its term list, and is the table of each list with the same amplitudes.
use Rattle.std.proofs.Common.{◌≡◌, Bool, true, false, List, [], ◌∷◌, get_or, int_eq, All, ◌⊎◌, inl, inr, ap, refl, ◌∙◌, subst}
use Rattle.std.proofs.lemmas.Bool.Decides.{Decides-int_eq}
use Rattle.std.proofs.lemmas.List.Elements.{All-nil, All-cons, All-head, All-tail}
use Rattle.std.specs.Prelude.{ℤ, pos}
use Rattle.amp_core.specs.declared.Amp.{Amp}
use Rattle.amp_core.specs.Amplitude.{Numerator, no_numerator, numerator, none, Same}
use Rattle.amp_core.proofs.Numerators.{by_entries}
use Rattle.amp_core.proofs.Amplitudes.{Same-none, numerator-Same_none, Same-sym, Same-trans, Same-equal}
use Rattle.sum_laws.specs.Terms.{same_bits, amplitude, SameTerms}
use Rattle.sum_laws.specs.Table.{RowOf, TableOf}
use Rattle.sum_laws.proofs.TermLists.{same_bits-refl, same_bits-equal}
use Rattle.sum_laws.proofs.Linear.{bool_cases}
use Rattle.sum_laws.proofs.Tables.{HasValue, any_here, any_later, whole_sums}

-- ---- a number is zero or not

zero_cases : (z : ℤ) → (z ≡ pos 0) ⊎ (z ≡ pos 0 → ⊥)
zero_cases z =
    let d = Decides-int_eq z (pos 0) in
    elim (bool_cases (int_eq z (pos 0))) [
      | inl e ↦ inl (d.0 e)
      | inr e ↦ inr (λ h. let f : int_eq z (pos 0) ≡ true = d.1 h in cc (e, f))
    ]

none_cases : (x : Amp) → Same x none ⊎ (Same x none → ⊥)
unfolding numerator
none_cases x = by (zero_cases x.a) (zero_cases x.b) (zero_cases x.c) (zero_cases x.d)
  where
    by : (x.a ≡ pos 0) ⊎ (x.a ≡ pos 0 → ⊥) → (x.b ≡ pos 0) ⊎ (x.b ≡ pos 0 → ⊥) → (x.c ≡ pos 0) ⊎ (x.c ≡ pos 0 → ⊥) → (x.d ≡ pos 0) ⊎ (x.d ≡ pos 0 → ⊥) → Same x none ⊎ (Same x none → ⊥)
    by (inl a) (inl b) (inl c) (inl d) = inl (Same-none x (by_entries (numerator x) no_numerator a b c d))
    by (inr n) b c d = inr (λ h. n (ap (λ (m : Numerator). m.a) (numerator-Same_none x h)))
    by (inl a) (inr n) c d = inr (λ h. n (ap (λ (m : Numerator). m.b) (numerator-Same_none x h)))
    by (inl a) (inl b) (inr n) d = inr (λ h. n (ap (λ (m : Numerator). m.c) (numerator-Same_none x h)))
    by (inl a) (inl b) (inl c) (inr n) = inr (λ h. n (ap (λ (m : Numerator). m.d) (numerator-Same_none x h)))

-- ---- a value has a row or none

abbrev NotValue : List Bool → List Bool × Amp → Type 0
NotValue v r = same_bits r.0 v ≡ false

value_cases : (v : List Bool) (rows : List (List Bool × Amp)) → HasValue v rows ⊎ All (NotValue v) rows
value_cases v [] = inr (All-nil (NotValue v))
value_cases v (r ∷ rs) =
    elim (bool_cases (same_bits r.0 v)) [
      | inl e ↦ inl (any_here (λ q. q.0 ≡ v) r rs (same_bits-equal r.0 v e))
      | inr e ↦ elim (value_cases v rs) [
        | inl h ↦ inl (any_later (λ q. q.0 ≡ v) r rs h)
        | inr h ↦ inr (All-cons (NotValue v) r rs e h)
      ]
    ]

no_value : (v : List Bool) (rows : List (List Bool × Amp)) → All (NotValue v) rows → amplitude v rows ≡ none
unfolding amplitude
no_value v [] h = refl
no_value v (r ∷ rs) h =
    let e : same_bits r.0 v ≡ false = All-head (NotValue v) r rs h in
    rw e (no_value v rs (All-tail (NotValue v) r rs h))

not_both : (v : List Bool) (rows : List (List Bool × Amp)) → HasValue v rows → All (NotValue v) rows → ⊥
not_both v rows (k, r, l, e, p) h =
    let f : same_bits v v ≡ false = subst (λ u. same_bits u v ≡ false) (ap (λ (q : List Bool × Amp). q.0) e ∙ p) (h k r l) in
    let g = same_bits-refl v in
    cc (f, g)

-- ---- the laws

row_amplitude : (ts rows : List (List Bool × Amp)) (v : List Bool) → TableOf ts rows → HasValue v rows → Same (amplitude v rows) (amplitude v ts)
row_amplitude ts rows v t (k, r, l, e, p) =
    let q : RowOf ts r = subst (RowOf ts) e (t.rows_are k r l) in
    let w : amplitude r.0 rows ≡ r.1 = subst (λ (s : List Bool × Amp). amplitude s.0 rows ≡ s.1) e (whole_sums rows t.ascending k r l) in
    subst (λ u. Same (amplitude u rows) (amplitude u ts)) p (Same-trans (amplitude r.0 rows) r.1 (amplitude r.0 ts) (Same-equal (amplitude r.0 rows) r.1 w) q.same)

rowless_amplitude : (ts rows : List (List Bool × Amp)) (v : List Bool) → TableOf ts rows → All (NotValue v) rows → Same (amplitude v rows) (amplitude v ts)
rowless_amplitude ts rows v t h =
    Same-trans (amplitude v rows) none (amplitude v ts) (Same-equal (amplitude v rows) none (no_value v rows h))
    (elim (none_cases (amplitude v ts)) [
      | inl z ↦ Same-sym (amplitude v ts) none z
      | inr n ↦ absurd (not_both v rows (t.complete v n) h)
    ])

pub SameTerms-table : (ts rows : List (List Bool × Amp)) → TableOf ts rows → SameTerms rows ts
SameTerms-table ts rows t = record {
  each = λ v. elim (value_cases v rows) [ inl h ↦ row_amplitude ts rows v t h | inr h ↦ rowless_amplitude ts rows v t h ];
}

pub TableOf-same : (ts us rows : List (List Bool × Amp)) → SameTerms ts us → TableOf ts rows → TableOf us rows
TableOf-same ts us rows s t = record {
  ascending = t.ascending;
  rows_are = λ k d l.
      let r = t.rows_are k d l in
      record {
        same = Same-trans (get_or rows k d).1 (amplitude (get_or rows k d).0 ts) (amplitude (get_or rows k d).0 us) r.same (s.each (get_or rows k d).0);
        reduced = r.reduced;
        not_zero = r.not_zero;
      };
  complete = λ v n. t.complete v (λ z. n (Same-trans (amplitude v us) (amplitude v ts) none (Same-sym (amplitude v ts) (amplitude v us) (s.each v)) z));
}
