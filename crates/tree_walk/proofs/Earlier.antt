-- The functions before one, by its number.
use Rattle.std.proofs.Common.{◌≡◌, ℕ, zero, suc, ◌+◌, ◌<◌, Bool, true, false, cond, ◌==◌, List, [], ◌∷◌, ◌++◌, length, take, drop, get_or}
use Rattle.std.proofs.Common.{reverse, refl, sym, ap, ◌∙◌, subst, arith, length-append}
use Rattle.std.proofs.lemmas.Bool.{eqb-true, eq-eqb}
use Rattle.std.proofs.lemmas.List.{reverse-append, length-map}
use Rattle.silq_tree.specs.Arena.{nothing, fun_at}
use Rattle.silq_tree.specs.Syntax.{Function}
use Rattle.silq_types.specs.Programs.{earlier_than}
use Rattle.check_scope.specs.Library.{Shelf, functions_of, function_at, before_at}
use Rattle.tree_walk.proofs.Calling.{before_length}

split_at : {A : Type 0} (n : ℕ) (xs : List A) (d : A) → n < length xs → xs ≡ take n xs ++ get_or xs n d ∷ drop (suc n) xs
split_at n [] d lt = absurd (omega (arith, lt))
split_at zero (x ∷ xs) d lt = refl
split_at (suc n) (x ∷ xs) d lt = ap (λ ys. x ∷ ys) (split_at n xs d (omega (arith, lt)))

reversed_at : {A : Type 0} (n : ℕ) (xs : List A) (d : A) → n < length xs → reverse xs ≡ (reverse (drop (suc n) xs) ++ get_or xs n d ∷ []) ++ reverse (take n xs)
reversed_at n xs d lt =
    ap reverse (split_at n xs d lt) ∙ reverse-append (take n xs) (get_or xs n d ∷ drop (suc n) xs)
    ∙ ap (λ ys. ys ++ reverse (take n xs)) (reverse-append (get_or xs n d ∷ []) (drop (suc n) xs))

earlier_here : (n : ℕ) (f : Function) (b : List Function) → length b ≡ n → earlier_than n (f ∷ b) ≡ b
earlier_here n f b e = ap (λ t. cond t b (earlier_than n b)) (eq-eqb (length b) n e)

earlier_later : (n : ℕ) (f : Function) (b : List Function) → n < length b → earlier_than n (f ∷ b) ≡ earlier_than n b
earlier_later n f b lt = go (length b == n) refl
  where
    go : (t : Bool) → (length b == n) ≡ t → cond t b (earlier_than n b) ≡ earlier_than n b
    go true e = let same = eqb-true (length b) n e in absurd (omega (arith, lt, same))
    go false e = refl

earlier_in : (n : ℕ) (a : List Function) (f : Function) (b : List Function) → length b ≡ n → earlier_than n ((a ++ f ∷ []) ++ b) ≡ b
earlier_in n [] f b e = earlier_here n f b e
earlier_in n (g ∷ a) f b e =
    let whole : length ((a ++ f ∷ []) ++ b) ≡ length a + 1 + length b = length-append (a ++ f ∷ []) b ∙ ap (λ k. k + length b) (length-append a (f ∷ [])) in
    earlier_later n g ((a ++ f ∷ []) ++ b) (omega (arith, whole, e)) ∙ earlier_in n a f b e

pub earlier_before : (l : Shelf) (n : ℕ) → n < length l.funs → earlier_than n (reverse (functions_of l)) ≡ before_at l n
earlier_before l n lt =
    ap (earlier_than n) (reversed_at n (functions_of l) nothing (subst (λ k. n < k) (sym (length-map l.funs (fun_at l.nodes))) lt))
    ∙ earlier_in n (reverse (drop (suc n) (functions_of l))) (function_at l n) (before_at l n) (before_length l n (omega (arith, lt)))
