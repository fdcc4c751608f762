-- Lists in which no element stands twice.
use Rattle.std.proofs.Common.{◌≡◌, ℕ, suc, ◌≤◌, List, [], ◌∷◌, ◌++◌, length, slice_get, Some, Contains, refl, sym, subst, inl, inr, arith}
use Rattle.std.specs.Bool.{⊤}
use Rattle.std.proofs.lemmas.List.Elements.{Contains-append_cases}
use Rattle.graph_core.proofs.Places.{place_of}
use Rattle.topo_order.proofs.Orders.{contains_here, contains_later}
use Rattle.reqomp.proofs.Search.{without}

abbrev pub AreApart : {A : Type 0} → List A → Type 0
AreApart [] = ⊤
AreApart (x ∷ rest) = (¬ Contains rest x) × AreApart rest

module _ {A : Type 0} where
  -- elements that stand in a list, none of them twice, are no more than its elements
  pub within_length : (xs ys : List A) → AreApart xs → ((x : A) → Contains xs x → Contains ys x) → length xs ≤ length ys
  within_length [] ys apart there = omega arith
  within_length (x ∷ xs) ys apart there =
      let w = without ys x (there x (contains_here x x xs refl)) in
      let s : length ys ≡ suc (length w.rest) = w.shorter in
      let l : length xs ≤ length w.rest = within_length xs w.rest apart.1 (λ y c. elim (w.others y (there y (contains_later x y xs c))) [ inl e ↦ absurd (apart.0 (subst (Contains xs) (sym e) c)) | inr i ↦ i ]) in
      omega arith

  pub apart_by_place : (xs : List A) → ((i j : ℕ) (x : A) → slice_get xs i ≡ Some x → slice_get xs j ≡ Some x → i ≡ j) → AreApart xs
  apart_by_place [] once = tt
  apart_by_place (x ∷ xs) once = (
    (λ c. let p = place_of xs x c in let e : 0 ≡ suc p.0 = once 0 (suc p.0) x refl p.1 in omega arith),
    apart_by_place xs (λ i j y p q. let e : suc i ≡ suc j = once (suc i) (suc j) y p q in omega arith),
  )

  pub apart_append : (xs ys : List A) → AreApart xs → AreApart ys → ((x : A) → Contains xs x → ¬ Contains ys x) → AreApart (xs ++ ys)
  apart_append [] ys a b other = b
  apart_append (x ∷ xs) ys a b other = (
    (λ c. elim (Contains-append_cases xs ys x c) [ inl i ↦ a.0 i | inr j ↦ other x (contains_here x x xs refl) j ]),
    apart_append xs ys a.1 b (λ y c. other y (contains_later x y xs c)),
  )
