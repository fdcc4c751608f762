-- Looking for an element of a list, for a number and for an edge.
use Rattle.std.proofs.Common.{◌≡◌, ℕ, zero, suc, ◌<◌, ◌⊎◌, List, [], ◌∷◌, length, slice_get, Option, Some, None, Contains, refl, sym, ap, ◌∙◌, subst, inl, inr, arith}
use Rattle.std.proofs.lemmas.Bool.{cases_eq}
use Rattle.std.proofs.lemmas.Option.{none-some, same_Some}
use Rattle.flat_core.specs.Label.{step_id, wire_id}
use Rattle.graph_core.specs.declared.vertex.Vertex.{Vertex}
use Rattle.graph_core.specs.declared.vertex.Vertex.TheVariants.{Forward, Reverse, Free}
use Rattle.topo_order.proofs.Orders.{contains_nil, contains_cases, contains_here, contains_later}

-- something holds or not
abbrev pub Decided : Type 0 → Type 0
Decided P = P ⊎ ¬ P

pub both : {P Q : Type 0} → Decided P → Decided Q → Decided (P × Q)
both (inl p) (inl q) = inl (p, q)
both (inl p) (inr n) = inr (λ r. n r.1)
both (inr n) d = inr (λ r. n r.0)

pub denied : {P : Type 0} → Decided P → Decided (¬ P)
denied (inl p) = inr (λ n. n p)
denied (inr n) = inl n

module _ {A : Type 0} (P : A → Type 0) (decide : (x : A) → Decided (P x)) where
  abbrev pub Found : List A → Type 0
  Found xs = (x : A) × Contains xs x × P x

  abbrev pub NoneIn : List A → Type 0
  NoneIn xs = (x : A) → Contains xs x → ¬ P x

  pub find_in : (xs : List A) → Found xs ⊎ NoneIn xs
  find_in [] = inr (λ x c. absurd (contains_nil x c))
  find_in (a ∷ xs) = go (decide a) (find_in xs)
    where
      go : Decided (P a) → Found xs ⊎ NoneIn xs → Found (a ∷ xs) ⊎ NoneIn (a ∷ xs)
      go (inl y) r = inl (a, contains_here a a xs refl, y)
      go (inr n) (inl r) = inl (r.0, contains_later a r.0 xs r.1, r.2)
      go (inr n) (inr none) = inr (λ x c p. elim (contains_cases a x xs c) [ inl e ↦ n (subst P (sym e) p) | inr i ↦ none x i p ])

-- a list with one element less
pub record Without {A : Type 0} (xs : List A) (x : A) : Type 0 where
  pub rest : List A
  pub shorter : length xs ≡ suc (length rest)
  pub others : (y : A) → Contains xs y → (x ≡ y) ⊎ Contains rest y

pub without : {A : Type 0} (xs : List A) (x : A) → Contains xs x → Without xs x
without [] x c = absurd (contains_nil x c)
without (a ∷ xs) x c = go (contains_cases a x xs c) (without xs x)
  where
    go : (a ≡ x) ⊎ Contains xs x → (Contains xs x → Without xs x) → Without (a ∷ xs) x
    go (inl e) less = record {
      rest = xs;
      shorter = refl;
      others = λ y d. elim (contains_cases a y xs d) [ inl s ↦ inl (sym e ∙ s) | inr i ↦ inr i ];
    }
    go (inr i) less =
        let r = less i in
        record {
          rest = a ∷ r.rest;
          shorter = ap suc r.shorter;
          others = λ y d. elim (contains_cases a y xs d) [
            | inl s ↦ inr (contains_here a y r.rest s)
            | inr j ↦ elim (r.others y j) [ inl s ↦ inl s | inr k ↦ inr (contains_later a y r.rest k) ]
          ];
        }

-- the values of a function at the first n numbers
abbrev pub listed : {A : Type 0} → (ℕ → A) → ℕ → List A
listed f zero = []
listed f (suc n) = f n ∷ listed f n

pub listed_at : {A : Type 0} (f : ℕ → A) (n k : ℕ) → k < n → Contains (listed f n) (f k)
listed_at f zero k l = absurd (omega arith)
listed_at f (suc n) k l = elim (cases_eq n k) [
  | inl e ↦ contains_here (f n) (f k) (listed f n) (ap f e)
  | inr ne ↦ contains_later (f n) (f k) (listed f n) (listed_at f n k (omega arith))
]

pub length-listed : {A : Type 0} (f : ℕ → A) (n : ℕ) → length (listed f n) ≡ n
length-listed f zero = refl
length-listed f (suc n) = ap suc (length-listed f n)

abbrev number_of : Vertex → ℕ
number_of (Forward s) = s.number
number_of (Reverse s) = s.number
number_of (Free w) = w.number

abbrev kind_of : Vertex → ℕ
kind_of (Forward s) = 0
kind_of (Reverse s) = 1
kind_of (Free w) = 2

other_kind : (a b : Vertex) → ¬ (kind_of a ≡ kind_of b) → ¬ (a ≡ b)
other_kind a b n e = n (ap kind_of e)

by_number : (a b : Vertex) → (number_of a ≡ number_of b → a ≡ b) → Decided (a ≡ b)
by_number a b same = elim (cases_eq (number_of a) (number_of b)) [ inl e ↦ inl (same e) | inr n ↦ inr (λ e. n (ap number_of e)) ]

pub same_vertex : (a b : Vertex) → Decided (a ≡ b)
same_vertex (Forward s) (Forward t) = by_number (Forward s) (Forward t) (λ e. ap (λ (n : ℕ). Forward (step_id n)) e)
same_vertex (Forward s) (Reverse t) = inr (other_kind (Forward s) (Reverse t) (λ e. omega arith))
same_vertex (Forward s) (Free t) = inr (other_kind (Forward s) (Free t) (λ e. omega arith))
same_vertex (Reverse s) (Forward t) = inr (other_kind (Reverse s) (Forward t) (λ e. omega arith))
same_vertex (Reverse s) (Reverse t) = by_number (Reverse s) (Reverse t) (λ e. ap (λ (n : ℕ). Reverse (step_id n)) e)
same_vertex (Reverse s) (Free t) = inr (other_kind (Reverse s) (Free t) (λ e. omega arith))
same_vertex (Free s) (Forward t) = inr (other_kind (Free s) (Forward t) (λ e. omega arith))
same_vertex (Free s) (Reverse t) = inr (other_kind (Free s) (Reverse t) (λ e. omega arith))
same_vertex (Free s) (Free t) = by_number (Free s) (Free t) (λ e. ap (λ (n : ℕ). Free (wire_id n)) e)

pub in_list : (xs : List Vertex) (v : Vertex) → Decided (Contains xs v)
in_list xs v = elim (find_in (λ x. v ≡ x) (same_vertex v) xs) [
  | inl r ↦ inl (subst (Contains xs) (sym r.2) r.1)
  | inr none ↦ inr (λ c. none v c refl)
]

-- what stands at a place of a list
pub stands_at : (xs : List Vertex) (k : ℕ) (v : Vertex) → Decided (slice_get xs k ≡ Some v)
stands_at xs k v = go (slice_get xs k) refl
  where
    go : (o : Option Vertex) → slice_get xs k ≡ o → Decided (slice_get xs k ≡ Some v)
    go None e = inr (λ h. none-some v (sym e ∙ h))
    go (Some u) e = elim (same_vertex u v) [
      | inl s ↦ inl (e ∙ ap (λ (x : Vertex). Some x) s)
      | inr n ↦ inr (λ h. n (same_Some u v (sym e ∙ h)))
    ]
