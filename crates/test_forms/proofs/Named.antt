-- The wires of a side are named exactly, each once.
use Rattle.std.proofs.Common.{◌≡◌, ℕ, zero, suc, ◌<◌, ◌⊎◌, Bool, true, false, cond, List, [], ◌∷◌, ◌++◌, length, slice_get, Some, Contains, refl, sym, ap, ◌∙◌, subst, inl, inr, arith, append-nil}
use Rattle.std.proofs.lemmas.Bool.{cases_Bool, cases_eq}
use Rattle.std.proofs.lemmas.Option.{same_Some, slice_get_within, get_or_from_slice_get}
use Rattle.std.proofs.lemmas.List.Elements.{Contains-append_left, Contains-append_right, Contains-push_cases}
use Rattle.flat_core.specs.declared.step.WireId.{WireId}
use Rattle.flat_core.specs.Form.{WireForm}
use Rattle.flat_core.specs.Label.{wire_id, wire_in}
use Rattle.flat_core.specs.Sound.{NamesExactly}
use Rattle.test_forms.specs.declared.lists.Side.{Side}
use Rattle.test_forms.specs.Table.{keeps, ids}

contains_at : {A : Type 0} (xs : List A) (i : ℕ) (x : A) → slice_get xs i ≡ Some x → Contains xs x
contains_at xs i x h = (i, slice_get_within xs i x h, get_or_from_slice_get xs i x x h)

at_push : {A : Type 0} (xs : List A) (a : A) (i : ℕ) (x : A) → slice_get (xs ++ a ∷ []) i ≡ Some x → (slice_get xs i ≡ Some x) ⊎ ((i ≡ length xs) × (a ≡ x))
at_push [] a zero x h = inr (refl, same_Some a x h)
at_push [] a (suc i) x h = cc
at_push (b ∷ xs) a zero x h = inl h
at_push (b ∷ xs) a (suc i) x h = elim (at_push xs a i x h) [ inl l ↦ inl l | inr r ↦ inr (ap suc r.0, r.1) ]

module _ (side : Side) (wires : List WireForm) where
  abbrev kept : WireId → Bool
  kept w = keeps side (wire_in wires w)

  one_more : (n : ℕ) → kept (wire_id n) ≡ true → ids side wires (suc n) ≡ ids side wires n ++ wire_id n ∷ []
  one_more n e = ap (λ (b : Bool). ids side wires n ++ cond b (wire_id n ∷ []) []) e

  none_more : (n : ℕ) → kept (wire_id n) ≡ false → ids side wires (suc n) ≡ ids side wires n
  none_more n e = ap (λ (b : Bool). ids side wires n ++ cond b (wire_id n ∷ []) []) e ∙ append-nil (ids side wires n)

  only : (n : ℕ) (w : WireId) → Contains (ids side wires n) w → (w.number < n) × (kept w ≡ true)
  only zero w c = let l = c.1 in absurd (omega arith)
  only (suc n) w c = elim (cases_Bool (kept (wire_id n))) [
    | inl t ↦ elim (Contains-push_cases (ids side wires n) (wire_id n) w (subst (λ (l : List WireId). Contains l w) (one_more n t) c)) [
      | inl d ↦ let r = only n w d in ((let l = r.0 in omega arith), r.1)
      | inr e ↦ subst (λ (x : WireId). (x.number < suc n) × (kept x ≡ true)) e (omega arith, t)
    ]
    | inr f ↦ let r = only n w (subst (λ (l : List WireId). Contains l w) (none_more n f) c) in ((let l = r.0 in omega arith), r.1)
  ]

  each : (n : ℕ) (w : WireId) → w.number < n → kept w ≡ true → Contains (ids side wires n) w
  each zero w l k = absurd (omega arith)
  each (suc n) w l k = elim (cases_eq n w.number) [
    | inl e ↦
        let same : wire_id n ≡ w = ap wire_id e in
        subst (λ (l : List WireId). Contains l w) (sym (one_more n (ap kept same ∙ k)))
        (Contains-append_right (ids side wires n) (wire_id n ∷ []) w (0, omega arith, same))
    | inr ne ↦ Contains-append_left (ids side wires n) (cond (kept (wire_id n)) (wire_id n ∷ []) []) w (each n w (omega arith) k)
  ]

  not_new : (n i : ℕ) (w : WireId) → slice_get (ids side wires n) i ≡ Some w → ¬ (wire_id n ≡ w)
  not_new n i w h e = let l = (only n w (contains_at (ids side wires n) i w h)).0 in let m = ap (λ (x : WireId). x.number) e in omega arith

  once : (n i j : ℕ) (w : WireId) → slice_get (ids side wires n) i ≡ Some w → slice_get (ids side wires n) j ≡ Some w → i ≡ j
  once zero i j w p q = cc
  once (suc n) i j w p q = elim (cases_Bool (kept (wire_id n))) [
    | inl t ↦
        let at_i = at_push (ids side wires n) (wire_id n) i w (subst (λ (l : List WireId). slice_get l i ≡ Some w) (one_more n t) p) in
        let at_j = at_push (ids side wires n) (wire_id n) j w (subst (λ (l : List WireId). slice_get l j ≡ Some w) (one_more n t) q) in
        elim at_i [
          | inl a ↦ elim at_j [ inl b ↦ once n i j w a b | inr b ↦ absurd (not_new n i w a b.1) ]
          | inr a ↦ elim at_j [ inl b ↦ absurd (not_new n j w b a.1) | inr b ↦ a.0 ∙ sym b.0 ]
        ]
    | inr f ↦ once n i j w (subst (λ (l : List WireId). slice_get l i ≡ Some w) (none_more n f) p) (subst (λ (l : List WireId). slice_get l j ≡ Some w) (none_more n f) q)
  ]

  -- one list of these wires names them exactly
  pub one_list : (n : ℕ) (IsOne : WireId → Type 0) → ((w : WireId) → IsOne w → (w.number < n) × (kept w ≡ true)) → ((w : WireId) → w.number < n → kept w ≡ true → IsOne w) → NamesExactly (ids side wires n ∷ []) IsOne
  one_list n IsOne there is = record {
    only = λ w c. let r = only n w (subst (λ (l : List WireId). Contains l w) (append-nil (ids side wires n)) c) in is w r.0 r.1;
    each = λ w h. subst (λ (l : List WireId). Contains l w) (sym (append-nil (ids side wires n))) (each n w (there w h).0 (there w h).1);
    once = λ i j w p q. once n i j w (subst (λ (l : List WireId). slice_get l i ≡ Some w) (append-nil (ids side wires n)) p) (subst (λ (l : List WireId). slice_get l j ≡ Some w) (append-nil (ids side wires n)) q);
  }
