-- Lists that are walked side by side, and the parameter that a place is.
use Rattle.std.specs.Prelude.{◌≡◌, refl, ℕ, zero, suc, ◌+◌, ◌<◌, ◌≤◌, min, Bool, true, false, cond, ◌==◌, List, [], ◌∷◌, ◌++◌, length, map, drop, get_or, nat_le, Some, None, slice_get, ℤ}
use mathlib.Core.Path.{sym, ap, ◌∙◌, subst}
use native.Mathlib.Omega.{arith}
use Rattle.silq_tree.specs.declared.node.NameId.{NameId}
use Rattle.silq_types.specs.declared.signature.Param.{Param}
use Rattle.silq_types.specs.declared.types.Ty.{Ty}
use Rattle.silq_types.specs.declared.values.Value.{Value}
use Rattle.silq_tree.specs.Syntax.{Parameter}
use Rattle.check_scope.specs.Context.{variable}
use Rattle.silq_types.specs.Programs.{paired}
use Rattle.check_fun.specs.Program.{given_on, returned_as, param_vars, param_origin}
use Rattle.std.proofs.lemmas.Bool.{eqb-true, leb-true, leb-false}
use Rattle.std.proofs.lemmas.List.{drop_more, drop_all, append_assoc, append-nil}

pub given_past : (i : ℕ) (ps : List Param) (place : ℕ) → i + length ps ≤ place → given_on i ps place ≡ None
given_past i [] place le = refl
given_past i (p ∷ ps) place le = go (place == i) refl (given_past (suc i) ps place (omega (arith, le)))
  where
    go : (b : Bool) → (place == i) ≡ b → given_on (suc i) ps place ≡ None → cond b (cond p.held None (Some i)) (given_on (suc i) ps place) ≡ None
    go true is ih = absurd (omega (arith, eqb-true place i is, le))
    go false is ih = ih

pub given_at : (i : ℕ) (ps : List Param) (n : ℕ) (p : Param) → slice_get ps n ≡ Some p → given_on i ps (i + n) ≡ cond p.held None (Some (i + n))
given_at i [] n p e = absurd (grind (arith, e))
given_at i (q ∷ ps) zero p e = go (i + 0 == i) refl
  where
    same : q ≡ p
    same = grind (arith, e)

    go : (b : Bool) → (i + 0 == i) ≡ b → cond b (cond q.held None (Some i)) (given_on (suc i) ps (i + 0)) ≡ cond p.held None (Some (i + 0))
    go true is = subst (λ x. cond q.held None (Some i) ≡ cond x.held None (Some (i + 0))) same (ap (λ k. cond q.held None (Some k)) (sym (eqb-true (i + 0) i is)))
    go false is = absurd (grind (arith, is))
given_at i (q ∷ ps) (suc n) p e = go (i + suc n == i) refl (given_at (suc i) ps n p e)
  where
    go : (b : Bool) → (i + suc n == i) ≡ b → given_on (suc i) ps (suc i + n) ≡ cond p.held None (Some (suc i + n)) → cond b (cond q.held None (Some i)) (given_on (suc i) ps (i + suc n)) ≡ cond p.held None (Some (i + suc n))
    go true is ih = absurd (omega (arith, eqb-true (i + suc n) i is))
    go false is ih = let e2 : suc i + n ≡ i + suc n = omega arith in subst (λ k. given_on (suc i) ps k ≡ cond p.held None (Some k)) e2 ih

pub given_found : (ps : List Param) (n : ℕ) (p : Param) → slice_get ps n ≡ Some p → given_on 0 ps n ≡ cond p.held None (Some n)
given_found ps n p e = let none : 0 + n ≡ n = omega arith in subst (λ k. given_on 0 ps k ≡ cond p.held None (Some k)) none (given_at 0 ps n p e)

-- ---- lists that are walked side by side

pub drop_one : {A : Type 0} (xs : List A) (i : ℕ) (x : A) → i < length xs → ((d : A) → x ≡ get_or xs i d) → drop i xs ≡ x ∷ drop (i + 1) xs
drop_one xs i x lt is = drop_more xs i x lt ∙ ap (λ y. y ∷ drop (i + 1) xs) (sym (is x))

-- one more is done, and then the rest
pub done_one : {A : Type 0} (done : List A) (x : A) (rest old all : List A) → done ++ old ≡ all → old ≡ x ∷ rest → (done ++ x ∷ []) ++ rest ≡ all
done_one done x rest old all e is = append_assoc done (x ∷ []) rest ∙ ap (λ l. done ++ l) (sym is) ∙ e

pub done_all : {A : Type 0} (done rest all : List A) → done ++ rest ≡ all → rest ≡ [] → done ≡ all
done_all done rest all e is = sym (append-nil done) ∙ ap (λ l. done ++ l) (sym is) ∙ e

shorter : {C : Type 0} (F : C) (a b n : ℕ) (P : C → Type 0) → n ≡ min a b → (a ≤ n → P F) → (b ≤ n → P F) → P F
shorter F a b n P is first second = go (nat_le a b) refl
  where
    go : (x : Bool) → nat_le a b ≡ x → P F
    go true e = first (omega (arith, is, leb-true a b e))
    go false e = second (omega (arith, is, leb-false a b e))

paired_none : (xs : List NameId) → paired xs [] ≡ []
paired_none [] = refl
paired_none (x ∷ xs) = refl

pub paired_one : (xs : List NameId) (vs : List ℤ) (i : ℕ) (x : NameId) (v : ℤ) → drop i xs ≡ x ∷ drop (i + 1) xs → drop i vs ≡ v ∷ drop (i + 1) vs
    → paired (drop i xs) (drop i vs) ≡ (x, v) ∷ paired (drop (i + 1) xs) (drop (i + 1) vs)
paired_one xs vs i x v p q = ap (λ l. paired l (drop i vs)) p ∙ ap (λ l. paired (x ∷ drop (i + 1) xs) l) q

pub paired_end : (xs : List NameId) (vs : List ℤ) (n : ℕ) → n ≡ min (length xs) (length vs) → paired (drop n xs) (drop n vs) ≡ []
paired_end xs vs n is = shorter (paired (drop n xs) (drop n vs)) (length xs) (length vs) n (λ r. r ≡ []) is
    (λ le. ap (λ l. paired l (drop n vs)) (drop_all n xs le)) (λ le. ap (λ l. paired (drop n xs) l) (drop_all n vs le) ∙ paired_none (drop n xs))

returned_none : (ps : List Param) (ts : List Ty) → returned_as ps ts [] ≡ []
returned_none ps [] = refl
returned_none ps (t ∷ ts) = refl

pub returned_one : (ps : List Param) (ts : List Ty) (vs : List Value) (i : ℕ) (t : Ty) (v : Value) → drop i ts ≡ t ∷ drop (i + 1) ts → drop i vs ≡ v ∷ drop (i + 1) vs
    → returned_as ps (drop i ts) (drop i vs) ≡ record { ty = t; from = given_on 0 ps v.place } ∷ returned_as ps (drop (i + 1) ts) (drop (i + 1) vs)
returned_one ps ts vs i t v p q = ap (λ l. returned_as ps l (drop i vs)) p ∙ ap (λ l. returned_as ps (t ∷ drop (i + 1) ts) l) q

pub returned_end : (ps : List Param) (ts : List Ty) (vs : List Value) (n : ℕ) → n ≡ min (length ts) (length vs) → returned_as ps (drop n ts) (drop n vs) ≡ []
returned_end ps ts vs n is = shorter (returned_as ps (drop n ts) (drop n vs)) (length ts) (length vs) n (λ r. r ≡ []) is
    (λ le. ap (λ l. returned_as ps l (drop n vs)) (drop_all n ts le)) (λ le. ap (λ l. returned_as ps (drop n ts) l) (drop_all n vs le) ∙ returned_none ps (drop n ts))

params_none : (i : ℕ) (ns : List Parameter) → param_vars i ns [] ≡ []
params_none i [] = refl
params_none i (n ∷ ns) = refl

pub params_one : {N : Type 0} (f : N → Parameter) (ns : List N) (ps : List Param) (i : ℕ) (n : N) (p : Param) → drop i ns ≡ n ∷ drop (i + 1) ns → drop i ps ≡ p ∷ drop (i + 1) ps
    → param_vars i (map f (drop i ns)) (drop i ps)
    ≡ record { part = variable (f n).name; ty = p.ty; origin = param_origin p; place = i; consumed = false } ∷ param_vars (i + 1) (map f (drop (i + 1) ns)) (drop (i + 1) ps)
params_one f ns ps i n p a b =
    let more : suc i ≡ i + 1 = omega arith in
    ap (λ l. param_vars i (map f l) (drop i ps)) a
    ∙ ap (λ l. param_vars i (map f (n ∷ drop (i + 1) ns)) l) b
    ∙ ap (λ k. record { part = variable (f n).name; ty = p.ty; origin = param_origin p; place = i; consumed = false } ∷ param_vars k (map f (drop (i + 1) ns)) (drop (i + 1) ps)) more

pub params_end : {N : Type 0} (f : N → Parameter) (ns : List N) (ps : List Param) (n : ℕ) → n ≡ min (length ns) (length ps) → param_vars n (map f (drop n ns)) (drop n ps) ≡ []
params_end f ns ps n is = shorter (param_vars n (map f (drop n ns)) (drop n ps)) (length ns) (length ps) n (λ r. r ≡ []) is
    (λ le. ap (λ l. param_vars n (map f l) (drop n ps)) (drop_all n ns le)) (λ le. ap (λ l. param_vars n (map f (drop n ns)) l) (drop_all n ps le) ∙ params_none n (map f (drop n ns)))
