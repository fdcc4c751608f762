-- The first of the refusals of two lists is the first of their two first ones.
use Rattle.std.proofs.Common.{◌≡◌, ℕ, Bool, true, false, List, [], ◌∷◌, ◌++◌, refl, sym, ◌∙◌, ap, arith}
use Rattle.std.proofs.lemmas.Bool.Decides.{nat_tests}
use Rattle.std.specs.Prelude.{Option, Some, None, nat_lt, ◌==◌, ◌||◌, ◌&&◌}
use Rattle.qasm_read.specs.declared.refusal.Refusal.{Refusal}
use Rattle.qasm_read.specs.Refusals.{is_before, first_of, first_refusal, rank}
use Rattle.qasm_read.specs.Earlier.{sooner, earlier}

-- a pair of numbers before another
abbrev before : ℕ → ℕ → ℕ → ℕ → Bool
before s r t q = nat_lt s t || (s == t && nat_lt r q)

through : (s r t q u p : ℕ) → before s r t q ≡ true → before t q u p ≡ true → before s r u p ≡ true
through s r t q u p a b = grind (arith, nat_tests)

not_through : (s r t q u p : ℕ) → before s r t q ≡ false → before t q u p ≡ false → before s r u p ≡ false
not_through s r t q u p a b = grind (arith, nat_tests)

sooner-assoc : (a b c : Refusal) → sooner (sooner a b) c ≡ sooner a (sooner b c)
sooner-assoc a b c = go (is_before b a) refl (is_before c b) refl
  where
    go : (x : Bool) → is_before b a ≡ x → (y : Bool) → is_before c b ≡ y → sooner (sooner a b) c ≡ sooner a (sooner b c)
    go true e true f = rw (e, f, through c.at.start (rank c.fault) b.at.start (rank b.fault) a.at.start (rank a.fault) f e)
    go true e false f = rw (e, f, e)
    go false e true f = rw (e, f)
    go false e false f = rw (e, f, e, not_through c.at.start (rank c.fault) b.at.start (rank b.fault) a.at.start (rank a.fault) f e)

pub earlier-assoc : (a b c : Option Refusal) → earlier (earlier a b) c ≡ earlier a (earlier b c)
earlier-assoc None b c = refl
earlier-assoc (Some a) None c = refl
earlier-assoc (Some a) (Some b) None = refl
earlier-assoc (Some a) (Some b) (Some c) = ap Some (sooner-assoc a b c)

pub earlier-none : (a : Option Refusal) → earlier a None ≡ a
earlier-none None = refl
earlier-none (Some a) = refl

first_of-sooner : (a b : Refusal) (cs : List Refusal) → first_of (sooner a b) cs ≡ sooner a (first_of b cs)
first_of-sooner a b [] = refl
first_of-sooner a b (c ∷ cs) = ap (λ (r : Refusal). first_of r cs) (sooner-assoc a b c) ∙ first_of-sooner a (sooner b c) cs

first_of-append : (a : Refusal) (xs : List Refusal) (y : Refusal) (ys : List Refusal) → first_of a (xs ++ y ∷ ys) ≡ sooner (first_of a xs) (first_of y ys)
first_of-append a [] y ys = first_of-sooner a y ys
first_of-append a (x ∷ xs) y ys = first_of-append (sooner a x) xs y ys

append_none : (a : Refusal) (xs : List Refusal) → first_of a (xs ++ []) ≡ first_of a xs
append_none a [] = refl
append_none a (x ∷ xs) = append_none (sooner a x) xs

pub first_refusal-append : (xs ys : List Refusal) → first_refusal (xs ++ ys) ≡ earlier (first_refusal xs) (first_refusal ys)
first_refusal-append [] ys = refl
first_refusal-append (x ∷ xs) [] = ap Some (append_none x xs)
first_refusal-append (x ∷ xs) (y ∷ ys) = ap Some (first_of-append x xs y ys)

-- the first so far, one list further
pub first_refusal-step : (first next : Option Refusal) (xs ys all : List Refusal) → earlier first (first_refusal (xs ++ ys)) ≡ first_refusal all
    → next ≡ earlier first (first_refusal xs) → earlier next (first_refusal ys) ≡ first_refusal all
first_refusal-step first next xs ys all h e =
    ap (λ (r : Option Refusal). earlier r (first_refusal ys)) e
    ∙ (earlier-assoc first (first_refusal xs) (first_refusal ys)
    ∙ (ap (λ (r : Option Refusal). earlier first r) (sym (first_refusal-append xs ys)) ∙ h))

-- the laws by which the first refusal of lists in a row is told
pub ruleset first_refusals = (first_refusal-append)
