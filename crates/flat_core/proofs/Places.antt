-- Elements of lists by their places: `slice_get xs j ≡ Some x`.
use Rattle.std.proofs.Common.{◌≡◌, ℕ, ◌<◌, ◌⊎◌, List, [], ◌∷◌, ◌++◌, length, slice_get, slice_set, Some, sym, ap, ◌∙◌, inl, inr, arith, get_or-set_other, get_or-set_same, length-set, length-append}
use Rattle.std.proofs.lemmas.Bool.{cases_lt}
use Rattle.std.proofs.lemmas.List.{get_or_append_left, get_or_push}
use Rattle.std.proofs.lemmas.Option.{slice_get_within, slice_get-get_or, get_or_from_slice_get}

module _ {A : Type 0} where
  -- an element of a list with one more is one from before, or the last
  pub at_push : (xs : List A) (x : A) (j : ℕ) (y : A) → slice_get (xs ++ x ∷ []) j ≡ Some y → ((j < length xs) × (slice_get xs j ≡ Some y)) ⊎ ((j ≡ length xs) × (x ≡ y))
  at_push xs x j y h =
      let within : j < length (xs ++ x ∷ []) = slice_get_within (xs ++ x ∷ []) j y h in
      let longer = length-append xs (x ∷ []) in
      let read = get_or_from_slice_get (xs ++ x ∷ []) j y y h in
      elim (cases_lt j (length xs)) [
        | inl l ↦ inl (l, slice_get-get_or xs j y l ∙ ap (λ (z : A). Some z) (sym (get_or_append_left xs (x ∷ []) y j l) ∙ read))
        | inr l ↦ let e : j ≡ length xs = omega arith in inr (e, sym (get_or_push xs x y j (sym e)) ∙ read)
      ]

  -- an element of a list after a write is what was written, or one from before
  pub at_set_same : (xs : List A) (i : ℕ) (x : A) (y : A) → i < length xs → slice_get (slice_set xs i x) i ≡ Some y → x ≡ y
  at_set_same xs i x y l h = sym (get_or-set_same xs i x y l) ∙ get_or_from_slice_get (slice_set xs i x) i y y h

  pub at_set_other : (xs : List A) (i j : ℕ) (x : A) (y : A) → (j ≡ i → ⊥) → slice_get (slice_set xs i x) j ≡ Some y → slice_get xs j ≡ Some y
  at_set_other xs i j x y d h =
      let within : j < length (slice_set xs i x) = slice_get_within (slice_set xs i x) j y h in
      let same = length-set xs i x in
      slice_get-get_or xs j y (omega arith) ∙ ap (λ (z : A). Some z) (sym (get_or-set_other xs i j x y d) ∙ get_or_from_slice_get (slice_set xs i x) j y y h)
