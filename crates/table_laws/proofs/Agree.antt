-- The table of a circuit of a program is the program's, with zeros behind.
use Rattle.std.proofs.Common.{◌≡◌, ℕ, zero, suc, ◌+◌, ◌-◌, ◌<◌, inl, inr, Bool, false, cond, List, [], ◌∷◌, ◌++◌, map, length, length-append, get_or, replicate}
use Rattle.std.proofs.Common.{refl, ap, sym, ◌∙◌, subst, arith}
use Rattle.std.proofs.lemmas.Bool.{cases_eq}
use Rattle.amp_core.specs.declared.Amp.{Amp}
use Rattle.amp_core.specs.Amplitude.{none, plus, Same}
use Rattle.amp_core.proofs.Amplitudes.{Same-equal}
use Rattle.sum_laws.specs.Terms.{same_bits, amplitude, pick, SameTerms}
use Rattle.sum_laws.specs.Table.{TableOf}
use Rattle.sum_laws.proofs.Tables.{one_table}
use Rattle.sum_laws.proofs.TableTerms.{TableOf-same}
use Rattle.gate_core.specs.Local.{Absent, AllDiffer, AllBelow, HasWidth}
use Rattle.gate_core.proofs.Local.{length-pick}
use Rattle.plan_gates.proofs.Spots.{same_list, on_zeros, length-on_zeros, at_spot, bits_are_placed}
use Rattle.table_write.specs.Outs.{rest_of}
use Rattle.table_laws.specs.Laws.{with_zeros}
use Rattle.table_laws.proofs.Orders.{differ_order, below_order, in_order, length-order, HasOne, rest_cases, rest_is_zero, rest_has_no_one}
use Rattle.table_laws.proofs.Zeros.{same_test, amplitude-zeros, amplitude-other, amplitude-length, width-zeros, table-zeros}

-- the terms with the bits of each in this order
abbrev pub in_this_order : List ℕ → List (List Bool × Amp) → List (List Bool × Amp)
in_this_order ps ts = map (λ t. (pick ps t.0, t.1)) ts

pick-append : (ps qs : List ℕ) (u : List Bool) → pick (ps ++ qs) u ≡ pick ps u ++ pick qs u
pick-append [] qs u = refl
pick-append (p ∷ ps) qs u = ap (λ w. get_or u p false ∷ w) (pick-append ps qs u)

at-pick : (ps : List ℕ) (u : List Bool) (i : ℕ) → i < length ps → get_or (pick ps u) i false ≡ get_or u (get_or ps i 0) false
at-pick [] u i l = absurd (omega (arith, l))
at-pick (p ∷ ps) u zero l = refl
at-pick (p ∷ ps) u (suc i) l = at-pick ps u i (omega (arith, l))

width-order : (ps : List ℕ) (ts : List (List Bool × Amp)) → HasWidth (length ps) (in_this_order ps ts)
width-order ps [] = tt
width-order ps (t ∷ ts) = (length-pick ps t.0, width-order ps ts)

-- ---- bits in an order that has each qubit once

module _ (n : ℕ) (ps : List ℕ) (differ : AllDiffer ps) (below : AllBelow n ps) (all : (q : ℕ) → q < n → Absent q ps → ⊥) (many : length ps ≡ n) where
  back : (u : List Bool) → length u ≡ n → u ≡ on_zeros n ps (pick ps u)
  back u e = bits_are_placed n ps differ below u e (λ q l a. absurd (all q (subst (λ m. q < m) e l) a))

  pub forth : (v : List Bool) → length v ≡ n → pick ps (on_zeros n ps v) ≡ v
  forth v e =
      same_list (pick ps (on_zeros n ps v)) v (length-pick ps (on_zeros n ps v) ∙ many ∙ sym e)
      (λ i l. let k : i < length ps = subst (λ m. i < m) (length-pick ps (on_zeros n ps v)) l in
      at-pick ps (on_zeros n ps v) i k ∙ at_spot n ps differ below v i (e ∙ sym many) k)

  same_picked : (t u : List Bool) → length t ≡ n → length u ≡ n → pick ps t ≡ pick ps u → t ≡ u
  same_picked t u a b e = back t a ∙ ap (on_zeros n ps) e ∙ sym (back u b)

  pub amplitude-order : (u : List Bool) → length u ≡ n → (ts : List (List Bool × Amp)) → HasWidth n ts
      → amplitude (pick ps u) (in_this_order ps ts) ≡ amplitude u ts
  unfolding amplitude
  amplitude-order u e [] h = refl
  amplitude-order u e (t ∷ ts) h =
      ap (λ b. cond b (plus t.1 (amplitude (pick ps u) (in_this_order ps ts))) (amplitude (pick ps u) (in_this_order ps ts)))
      (same_test (pick ps t.0) (pick ps u) t.0 u (same_picked t.0 u h.0 e) (ap (pick ps)))
      ∙ ap (λ x. cond (same_bits t.0 u) (plus t.1 x) x) (amplitude-order u e ts h.1)

-- ---- amplitudes of a circuit that are those of a program

-- the terms give each value of the outs its amplitude in the source, where all other bits are 0, and no other value any
pub record Gives (n : ℕ) (outs : List ℕ) (ts source : List (List Bool × Amp)) : Type 0 where
  pub amplitudes : (u : List Bool) → length u ≡ n → ((q : ℕ) → q < n → Absent q outs → get_or u q false ≡ false)
      → Same (amplitude u ts) (amplitude (pick outs u) source)
  pub zeros : (u : List Bool) → length u ≡ n → HasOne n outs u → Same (amplitude u ts) none

module _ (n : ℕ) (outs : List ℕ) (differ : AllDiffer outs) (below : AllBelow n outs) (ts source : List (List Bool × Amp))
    (wide : HasWidth n ts) (fits : HasWidth (length outs) source) (gives : Gives n outs ts source) where
  abbrev rest : List ℕ
  rest = rest_of n outs

  abbrev order : List ℕ
  order = outs ++ rest_of n outs

  many : length order ≡ n
  many = length-order n outs differ below

  left : length rest ≡ n - length outs
  left = let e = many in let f = length-append outs rest in omega (arith, e, f)

  whole : length outs + length rest ≡ n
  whole = let e = many in let f = length-append outs rest in omega (arith, e, f)

  at_bits : (u : List Bool) → length u ≡ n → Same (amplitude u ts) (amplitude (pick order u) (with_zeros (length rest) source))
  at_bits u e =
      elim (rest_cases n outs u) [
        | inl z ↦
            let shown : pick order u ≡ pick outs u ++ replicate (length rest) false = pick-append outs rest u ∙ ap (λ w. pick outs u ++ w) z in
            subst (Same (amplitude u ts))
            (sym (amplitude-zeros (length rest) (pick outs u) source) ∙ ap (λ v. amplitude v (with_zeros (length rest) source)) (sym shown))
            (gives.amplitudes u e (rest_is_zero n outs u z))
        | inr w ↦
            let fits' : HasWidth (length (pick outs u)) source = subst (λ m. HasWidth m source) (sym (length-pick outs u)) fits in
            subst (Same (amplitude u ts))
            (sym (amplitude-other (length rest) (pick outs u) (pick rest u) source fits' (rest_has_no_one n outs u w))
            ∙ ap (λ v. amplitude v (with_zeros (length rest) source)) (sym (pick-append outs rest u)))
            (gives.zeros u e w)
      ]

  at_value : (v : List Bool) → length v ≡ n → Same (amplitude v (in_this_order order ts)) (amplitude v (with_zeros (length rest) source))
  at_value v e =
      let u = on_zeros n order v in
      let lu : length (on_zeros n order v) ≡ n = length-on_zeros n order v in
      let f : pick order (on_zeros n order v) ≡ v = forth n order (differ_order n outs differ) (below_order n outs below) (in_order n outs) many v e in
      let a : amplitude (pick order (on_zeros n order v)) (in_this_order order ts) ≡ amplitude (on_zeros n order v) ts =
      amplitude-order n order (differ_order n outs differ) (below_order n outs below) (in_order n outs) many (on_zeros n order v) lu ts wide in
      subst (λ w. Same (amplitude w (in_this_order order ts)) (amplitude w (with_zeros (length rest) source))) f
      (subst (λ x. Same x (amplitude (pick order (on_zeros n order v)) (with_zeros (length rest) source))) (sym a) (at_bits (on_zeros n order v) lu))

  same_terms : SameTerms (in_this_order order ts) (with_zeros (length rest) source)
  same_terms = record {
    each = λ v.
        elim (cases_eq (length v) n) [
          | inl e ↦ at_value v e
          | inr d ↦
              let a : amplitude v (in_this_order order ts) ≡ none =
              amplitude-length (length order) v (in_this_order order ts) (width-order order ts) (λ e. d (e ∙ many)) in
              let b : amplitude v (with_zeros (length rest) source) ≡ none =
              amplitude-length (length outs + length rest) v (with_zeros (length rest) source) (width-zeros (length outs) (length rest) source fits)
              (λ e. d (e ∙ whole)) in
              Same-equal (amplitude v (in_this_order order ts)) (amplitude v (with_zeros (length rest) source)) (a ∙ sym b)
        ];
  }

  -- the table in the order of the lines
  pub shown_table : (rows shown : List (List Bool × Amp)) → TableOf source rows → TableOf (in_this_order order ts) shown
      → shown ≡ with_zeros (n - length outs) rows
  shown_table rows shown h t =
      one_table (with_zeros (length rest) source) shown (with_zeros (length rest) rows)
      (TableOf-same (in_this_order order ts) (with_zeros (length rest) source) shown same_terms t)
      (table-zeros (length rest) source rows h)
      ∙ ap (λ k. with_zeros k rows) left
