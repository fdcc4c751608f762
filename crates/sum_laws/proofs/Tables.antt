-- The sorted table of a term list: made from the whole sums of its values in order, and the only one.
use Rattle.std.proofs.Common.{◌≡◌, ℕ, zero, suc, ◌<◌, Bool, true, false, cond, List, [], ◌∷◌, ◌++◌, length, get_or, All, Any, ◌⊎◌, inl, inr, refl, ap, sym, ◌∙◌, subst, arith}
use Rattle.std.proofs.lemmas.List.Elements.{All-nil, All-cons, All-head, All-tail}
use Rattle.amp_core.specs.declared.Amp.{Amp}
use Rattle.amp_core.specs.Amplitude.{none, plus, Same}
use Rattle.amp_core.proofs.Amplitudes.{none-plus, plus-none, Same-refl, Same-sym, Same-trans, Same-plus, Same-equal}
use Rattle.amp_core.proofs.Reduced.{same_reduced}
use Rattle.sum_laws.specs.Terms.{same_bits, amplitude}
use Rattle.sum_laws.specs.Table.{bits_below, Ascending, RowOf, TableOf}
use Rattle.sum_laws.specs.InOrder.{IsRowFor, AddsRow}
use Rattle.sum_laws.proofs.TermLists.{same_bits-refl, same_bits-equal}
use Rattle.sum_laws.proofs.Linear.{bool_cases}
use Rattle.sum_laws.proofs.Order.{below_itself, below_trans, not_same_from_below, same_bits_sym}

-- ---- some element of a list

pub any_here : {X : Type 0} (P : X → Type 0) (x : X) (xs : List X) → P x → Any P (x ∷ xs)
any_here P x xs p = (0, x, omega arith, refl, p)

pub any_later : {X : Type 0} (P : X → Type 0) (x : X) (xs : List X) → Any P xs → Any P (x ∷ xs)
any_later P x xs (k, y, l, e, p) = (suc k, y, omega arith, e, p)

any_none : {X : Type 0} (P : X → Type 0) → Any P [] → ⊥
any_none P (k, y, l, e, p) = absurd (omega arith)

any_cases : {X : Type 0} (P : X → Type 0) (x : X) (xs : List X) → Any P (x ∷ xs) → P x ⊎ Any P xs
any_cases {X} P x xs (k, y, l, e, p) = at k l e
  where
    at : (k : ℕ) → k < length (x ∷ xs) → get_or (x ∷ xs) k y ≡ y → P x ⊎ Any P xs
    at zero l e = inl (subst P (sym e) p)
    at (suc k) l e = inr (k, y, omega arith, e, p)

-- a row with this value
abbrev pub HasValue : List Bool → List (List Bool × Amp) → Type 0
HasValue v rows = Any (λ r. r.0 ≡ v) rows

abbrev pub Above : List Bool → List Bool × Amp → Type 0
Above v t = bits_below v t.0 ≡ true

above_value : (u v : List Bool) (rows : List (List Bool × Amp)) → All (Above u) rows → HasValue v rows → bits_below u v ≡ true
above_value u v rows h (k, r, l, e, p) = subst (λ w. bits_below u w ≡ true) (ap (λ (t : List Bool × Amp). t.0) e ∙ p) (h k r l)

-- ---- from whole sums to rows

-- the rows of these sums, which leave out those that are zero
pub data AreRows : List (List Bool × Amp) → List (List Bool × Amp) → Type 0 where
  nothing : AreRows [] []
  left_out : (s : List Bool × Amp) {ss rs : List (List Bool × Amp)} → Same s.1 none → AreRows ss rs → AreRows (s ∷ ss) rs
  kept : (s r : List Bool × Amp) {ss rs : List (List Bool × Amp)} → IsRowFor s r → AreRows ss rs → AreRows (s ∷ ss) (r ∷ rs)

one_left_out : (s : List Bool × Amp) {ss rs : List (List Bool × Amp)} → Same s.1 none → AreRows ss rs → AreRows (ss ++ s ∷ []) rs
one_left_out s z nothing = left_out s z nothing
one_left_out s z (left_out t y h) = left_out t y (one_left_out s z h)
one_left_out s z (kept t r k h) = kept t r k (one_left_out s z h)

one_kept : (s q : List Bool × Amp) {ss rs : List (List Bool × Amp)} → IsRowFor s q → AreRows ss rs → AreRows (ss ++ s ∷ []) (rs ++ q ∷ [])
one_kept s q k nothing = kept s q k nothing
one_kept s q k (left_out t y h) = left_out t y (one_kept s q k h)
one_kept s q k (kept t r l h) = kept t r l (one_kept s q k h)

pub AreRows-more : (s : List Bool × Amp) (ss rs more : List (List Bool × Amp)) → AreRows ss rs → AddsRow s rs more → AreRows (ss ++ s ∷ []) more
AreRows-more s ss rs more h (inl (z, e)) = subst (AreRows (ss ++ s ∷ [])) (sym e) (one_left_out s z h)
AreRows-more s ss rs more h (inr (r, k, e)) = subst (AreRows (ss ++ s ∷ [])) (sym e) (one_kept s r k h)

above_rows : (v : List Bool) {ss rs : List (List Bool × Amp)} → AreRows ss rs → All (Above v) ss → All (Above v) rs
above_rows v nothing a = a
above_rows v (left_out s {ss} {rs} z h) a = above_rows v h (All-tail (Above v) s ss a)
above_rows v (kept s r {ss} {rs} k h) a =
    All-cons (Above v) r rs (subst (λ u. bits_below v u ≡ true) (sym k.value) (All-head (Above v) s ss a)) (above_rows v h (All-tail (Above v) s ss a))

ascending_rows : {ss rs : List (List Bool × Amp)} → AreRows ss rs → Ascending ss → Ascending rs
ascending_rows nothing a = a
ascending_rows (left_out s z h) a = ascending_rows h a.1
ascending_rows (kept s r {ss} {rs} k h) a = (above_rows r.0 h (subst (λ u. All (Above u) ss) (sym k.value) a.0), ascending_rows h a.1)

-- a value below all others has no amplitude
pub absent : (v : List Bool) (ss : List (List Bool × Amp)) → All (Above v) ss → amplitude v ss ≡ none
unfolding amplitude
absent v [] a = refl
absent v (s ∷ ss) a =
    let e : same_bits s.0 v ≡ false = same_bits_sym s.0 v ∙ not_same_from_below v s.0 (All-head (Above v) s ss a) in
    rw e (absent v ss (All-tail (Above v) s ss a))

-- where values ascend, each stands once, with its whole sum
pub whole_sums : (ss : List (List Bool × Amp)) → Ascending ss → All (λ s. amplitude s.0 ss ≡ s.1) ss
unfolding amplitude
whole_sums [] a = All-nil (λ s. amplitude s.0 [] ≡ s.1)
whole_sums (s ∷ ss) a =
    All-cons (λ u. amplitude u.0 (s ∷ ss) ≡ u.1) s ss (rw (same_bits-refl s.0) (ap (plus s.1) (absent s.0 ss a.0) ∙ plus-none s.1))
    (λ k d l. rw (not_same_from_below s.0 (get_or ss k d).0 (a.0 k d l)) (whole_sums ss a.1 k d l))

rows_of_sums : (all : List (List Bool × Amp)) {ss rs : List (List Bool × Amp)} → AreRows ss rs → All (λ s. amplitude s.0 all ≡ s.1) ss → All (RowOf all) rs
rows_of_sums all nothing w = All-nil (RowOf all)
rows_of_sums all (left_out s {ss} {rs} z h) w = rows_of_sums all h (All-tail (λ s. amplitude s.0 all ≡ s.1) s ss w)
rows_of_sums all (kept s r {ss} {rs} k h) w =
    let sum : amplitude s.0 all ≡ s.1 = All-head (λ s. amplitude s.0 all ≡ s.1) s ss w in
    All-cons (RowOf all) r rs
    (record {
      same = Same-trans r.1 s.1 (amplitude r.0 all) k.same (Same-equal s.1 (amplitude r.0 all) (sym sum ∙ ap (λ u. amplitude u all) (sym k.value)));
      reduced = k.reduced;
      not_zero = λ z. k.not_zero (Same-trans s.1 r.1 none (Same-sym r.1 s.1 k.same) z);
    })
    (rows_of_sums all h (All-tail (λ s. amplitude s.0 all ≡ s.1) s ss w))

-- a value whose sum is not zero has a row
rows_complete : (v : List Bool) {ss rs : List (List Bool × Amp)} → AreRows ss rs → (Same (amplitude v ss) none → ⊥) → HasValue v rs
unfolding amplitude
rows_complete v nothing n = absurd (n (Same-refl none))
rows_complete v (left_out s {ss} {rs} z h) n = rows_complete v h (λ g. n (dropped (same_bits s.0 v) (amplitude v ss) g))
  where
    dropped : (b : Bool) (y : Amp) → Same y none → Same (cond b (plus s.1 y) y) none
    dropped true y g = Same-trans (plus s.1 y) (plus none none) none (Same-plus s.1 none y none z g) (Same-equal (plus none none) none (none-plus none))
    dropped false y g = g
rows_complete v (kept s r {ss} {rs} k h) n =
    elim (bool_cases (same_bits s.0 v)) [
      | inl e ↦ any_here (λ q. q.0 ≡ v) r rs (k.value ∙ same_bits-equal s.0 v e)
      | inr e ↦ any_later (λ q. q.0 ≡ v) r rs (rows_complete v h (λ g. n (rw e g)))
    ]

pub TableOf-from_sums : (all ss rs : List (List Bool × Amp)) → AreRows ss rs → Ascending ss → ((v : List Bool) → amplitude v ss ≡ amplitude v all) → TableOf all rs
TableOf-from_sums all ss rs h a w = record {
  ascending = ascending_rows h a;
  rows_are = rows_of_sums all h (λ k d l. sym (w (get_or ss k d).0) ∙ whole_sums ss a k d l);
  complete = λ v n. rows_complete v h (λ g. n (subst (λ x. Same x none) (w v) g));
}

-- a table is one of all lists with the same amplitudes
pub TableOf-along : (ts us rows : List (List Bool × Amp)) → ((v : List Bool) → amplitude v ts ≡ amplitude v us) → TableOf ts rows → TableOf us rows
TableOf-along ts us rows w h = record {
  ascending = h.ascending;
  rows_are = λ k d l.
      let r = h.rows_are k d l in
      record { same = subst (λ x. Same (get_or rows k d).1 x) (w (get_or rows k d).0) r.same; reduced = r.reduced; not_zero = r.not_zero };
  complete = λ v n. h.complete v (λ g. n (subst (λ x. Same x none) (w v) g));
}

-- ---- no other table

row_not_zero : (ts : List (List Bool × Amp)) (v : List Bool) (rows : List (List Bool × Amp)) → All (RowOf ts) rows → HasValue v rows → Same (amplitude v ts) none → ⊥
row_not_zero ts v rows h (k, r, l, e, p) z =
    let q : RowOf ts r = subst (RowOf ts) e (h k r l) in
    q.not_zero (Same-trans r.1 (amplitude r.0 ts) none q.same (subst (λ u. Same (amplitude u ts) none) (sym p) z))

same_row : (ts : List (List Bool × Amp)) (r q : List Bool × Amp) → RowOf ts r → RowOf ts q → r.0 ≡ q.0 → r ≡ q
same_row ts r q h k e =
    let f : r.1 ≡ q.1 =
    same_reduced r.1 q.1
    (Same-trans r.1 (amplitude r.0 ts) q.1 h.same (Same-trans (amplitude r.0 ts) (amplitude q.0 ts) q.1 (Same-equal (amplitude r.0 ts) (amplitude q.0 ts) (ap (λ u. amplitude u ts) e)) (Same-sym q.1 (amplitude q.0 ts) k.same)))
    h.reduced k.reduced in
    (λ i. (e i, f i))

-- where each value of two ascending lists stands in both, they begin with one value
first_value : (r q : List Bool × Amp) (rs qs : List (List Bool × Amp)) → Ascending (r ∷ rs) → Ascending (q ∷ qs) → HasValue r.0 (q ∷ qs) → HasValue q.0 (r ∷ rs) → r.0 ≡ q.0
first_value r q rs qs a b h k =
    elim (any_cases (λ t. t.0 ≡ r.0) q qs h) [
      | inl e ↦ sym e
      | inr e ↦ elim (any_cases (λ t. t.0 ≡ q.0) r rs k) [
        | inl f ↦ f
        | inr f ↦
            absurd (let p : bits_below r.0 r.0 ≡ true = below_trans r.0 q.0 r.0 (above_value r.0 q.0 rs a.0 f) (above_value q.0 r.0 qs b.0 e) in
            let n = below_itself r.0 in
            cc (p, n))
      ]
    ]

-- a later value of one list is a later value of the other
later_value : (v : List Bool) (r q : List Bool × Amp) (rs qs : List (List Bool × Amp)) → Ascending (r ∷ rs) → r.0 ≡ q.0 → HasValue v rs → HasValue v (q ∷ qs) → HasValue v qs
later_value v r q rs qs a e h k =
    elim (any_cases (λ t. t.0 ≡ v) q qs k) [
      | inl f ↦
          absurd (let p : bits_below v v ≡ true = subst (λ u. bits_below u v ≡ true) (e ∙ f) (above_value r.0 v rs a.0 h) in
          let n = below_itself v in
          cc (p, n))
      | inr f ↦ f
    ]

same_rows : (ts rs qs : List (List Bool × Amp)) → Ascending rs → Ascending qs → All (RowOf ts) rs → All (RowOf ts) qs → ((v : List Bool) → HasValue v rs → HasValue v qs) → ((v : List Bool) → HasValue v qs → HasValue v rs) → rs ≡ qs
same_rows ts [] [] a b h k f g = refl
same_rows ts [] (q ∷ qs) a b h k f g = absurd (any_none (λ t. t.0 ≡ q.0) (g q.0 (any_here (λ t. t.0 ≡ q.0) q qs refl)))
same_rows ts (r ∷ rs) [] a b h k f g = absurd (any_none (λ t. t.0 ≡ r.0) (f r.0 (any_here (λ t. t.0 ≡ r.0) r rs refl)))
same_rows ts (r ∷ rs) (q ∷ qs) a b h k f g =
    let e : r.0 ≡ q.0 = first_value r q rs qs a b (f r.0 (any_here (λ t. t.0 ≡ r.0) r rs refl)) (g q.0 (any_here (λ t. t.0 ≡ q.0) q qs refl)) in
    let first : r ≡ q = same_row ts r q (All-head (RowOf ts) r rs h) (All-head (RowOf ts) q qs k) e in
    let rest : rs ≡ qs =
    same_rows ts rs qs a.1 b.1 (All-tail (RowOf ts) r rs h) (All-tail (RowOf ts) q qs k)
    (λ v p. later_value v r q rs qs a e p (f v (any_later (λ t. t.0 ≡ v) r rs p)))
    (λ v p. later_value v q r qs rs b (sym e) p (g v (any_later (λ t. t.0 ≡ v) q qs p))) in
    (λ i. first i ∷ rest i)

-- the law: a term list has one table
pub one_table : (ts rows others : List (List Bool × Amp)) → TableOf ts rows → TableOf ts others → rows ≡ others
one_table ts rows others h k =
    same_rows ts rows others h.ascending k.ascending h.rows_are k.rows_are
    (λ v p. k.complete v (row_not_zero ts v rows h.rows_are p))
    (λ v p. h.complete v (row_not_zero ts v others k.rows_are p))
