-- Values that are turned over, and lists that end.
use Rattle.std.proofs.Common.{◌≡◌, ℕ, zero, suc, ◌+◌, ◌≤◌, List, [], ◌∷◌, ◌++◌, take, drop, reverse, refl, ap, ◌∙◌, arith}
use Rattle.std.proofs.lemmas.List.{reverse-append}
use Rattle.silq_tree.specs.declared.node.NameId.{NameId}
use Rattle.silq_mean.specs.Env.{Env}
use Rattle.silq_mean.specs.Value.{Value}
use Rattle.silq_mean.specs.Term.{bind_all, paired}

take_next : {A : Type 0} (xs : List A) (n : ℕ) (k : A) (rest : List A) → drop n xs ≡ k ∷ rest → take (suc n) xs ≡ take n xs ++ k ∷ []
take_next [] zero k rest e = absurd (cc)
take_next [] (suc n) k rest e = absurd (cc)
take_next (x ∷ xs) zero k rest e = let f : x ≡ k = cc in ap (λ z. z ∷ []) f
take_next (x ∷ xs) (suc n) k rest e = ap (λ z. x ∷ z) (take_next xs n k rest e)

drop_next : {A : Type 0} (xs : List A) (n : ℕ) (k : A) (rest : List A) → drop n xs ≡ k ∷ rest → drop (suc n) xs ≡ rest
drop_next [] zero k rest e = absurd (cc)
drop_next [] (suc n) k rest e = absurd (cc)
drop_next (x ∷ xs) zero k rest e = cc
drop_next (x ∷ xs) (suc n) k rest e = drop_next xs n k rest e

-- one value more is turned over
pub record Next {A : Type 0} (xs : List A) (n : ℕ) (k : A) (rest : List A) : Type 0 where
  pub turned : reverse (take (n + 1) xs) ≡ k ∷ reverse (take n xs)
  pub left : drop (n + 1) xs ≡ rest

pub next_turned : {A : Type 0} (xs : List A) (n : ℕ) (k : A) (rest : List A) → drop n xs ≡ k ∷ rest → Next xs n k rest
next_turned xs n k rest e = record {
  turned = ap (λ m. reverse (take m xs)) (let f : n + 1 ≡ suc n = omega arith in f) ∙ ap reverse (take_next xs n k rest e) ∙ reverse-append (take n xs) (k ∷ []);
  left = ap (λ m. drop m xs) (let f : n + 1 ≡ suc n = omega arith in f) ∙ drop_next xs n k rest e;
}

-- no value is left
pub ended : {A : Type 0} (xs : List A) (n m : ℕ) → n ≤ m → drop n xs ≡ [] → (take n xs ≡ take m xs) × (drop m xs ≡ [])
ended [] zero zero h e = (refl, refl)
ended [] zero (suc m) h e = (refl, refl)
ended [] (suc n) zero h e = (refl, refl)
ended [] (suc n) (suc m) h e = (refl, refl)
ended (x ∷ xs) zero m h e = absurd (cc)
ended (x ∷ xs) (suc n) zero h e = absurd (omega (arith, h))
ended (x ∷ xs) (suc n) (suc m) h e = let r = ended xs n m (omega (arith, h)) e in (ap (λ z. x ∷ z) r.0, r.1)

pub none_bound : (env : Env Value) (xs : List NameId) → bind_all env xs [] ≡ env
none_bound env [] = refl
none_bound env (x ∷ xs) = refl

pub none_paired : (xs : List NameId) → paired xs [] ≡ []
none_paired [] = refl
none_paired (x ∷ xs) = refl
