-- The entry among the names and among the functions.
use Rattle.std.specs.Prelude.{◌≡◌, refl, ℕ, zero, suc, ◌+◌, ◌<◌, ◌≤◌, Bool, true, false, ◌==◌, cond, List, [], ◌∷◌, ◌++◌, length, map, take, drop, get_or, reverse, Option, Some, slice_get}
use Rattle.std.specs.Str.{bytes_eq}
use mathlib.Core.Path.{sym, ap, ◌∙◌, subst}
use native.Mathlib.Omega.{arith}
use Rattle.std.proofs.lemmas.Bool.{eqb-true, eq-eqb}
use Rattle.std.proofs.lemmas.List.{drop_more, reverse-append, length-reverse, length-append}
use Rattle.std.proofs.lemmas.Option.{slice_get_within, get_or_from_slice_get}
use Rattle.silq_tree.specs.declared.node.NameId.{NameId}
use Rattle.silq_tree.specs.Syntax.{Function}
use Rattle.silq_tree.specs.Arena.{nothing, fun_at}
use Rattle.check_fun.specs.Entry.{number_from}
use Rattle.check_scope.specs.Library.{Shelf, functions_of, function_at, before_at}
use Rattle.silq_types.specs.Programs.{earlier_than}

-- ---- names

abbrev numbered : Bool → ℕ → Option NameId → Option NameId
numbered b n o = cond b (Some (record { number = n })) o

number_step : (names : List (List ℕ)) (n : ℕ) (t text : List ℕ) → slice_get names n ≡ Some t
    → number_from n (drop n names) text ≡ numbered (bytes_eq t text) n (number_from (n + 1) (drop (n + 1) names) text)
number_step names n t text e =
    let next : suc n ≡ n + 1 = omega arith in
    ap (λ (ts : List (List ℕ)). number_from n ts text) (drop_more names n t (slice_get_within names n t e))
    ∙ ap (λ (u : List ℕ). number_from n (u ∷ drop (n + 1) names) text) (get_or_from_slice_get names n t t e)
    ∙ ap (λ (m : ℕ). numbered (bytes_eq t text) n (number_from m (drop (n + 1) names) text)) next

pub number_here : (names : List (List ℕ)) (n : ℕ) (t text : List ℕ) → slice_get names n ≡ Some t → bytes_eq t text ≡ true → number_from n (drop n names) text ≡ Some (record { number = n })
number_here names n t text e same = number_step names n t text e ∙ ap (λ b. numbered b n (number_from (n + 1) (drop (n + 1) names) text)) same

pub number_later : (names : List (List ℕ)) (n : ℕ) (t text : List ℕ) → slice_get names n ≡ Some t → bytes_eq t text ≡ false → number_from n (drop n names) text ≡ number_from (n + 1) (drop (n + 1) names) text
number_later names n t text e same = number_step names n t text e ∙ ap (λ b. numbered b n (number_from (n + 1) (drop (n + 1) names) text)) same

-- ---- functions

length_mapped : {A B : Type 0} (f : A → B) (xs : List A) → length (map f xs) ≡ length xs
length_mapped f [] = refl
length_mapped f (x ∷ xs) = ap suc (length_mapped f xs)

functions_length : (l : Shelf) → length (functions_of l) ≡ length l.funs
functions_length l = length_mapped (fun_at l.nodes) l.funs

length_take : {A : Type 0} (n : ℕ) (xs : List A) → n ≤ length xs → length (take n xs) ≡ n
length_take zero xs le = refl
length_take (suc n) [] le = absurd (omega (arith, le))
length_take (suc n) (x ∷ xs) le = ap suc (length_take n xs (omega (arith, le)))

pub length_before : (l : Shelf) (n : ℕ) → n < length l.funs → length (before_at l n) ≡ n
length_before l n lt = length-reverse (take n (functions_of l)) ∙ length_take n (functions_of l) (subst (λ k. n ≤ k) (sym (functions_length l)) (omega (arith, lt)))

split_at : {A : Type 0} (n : ℕ) (xs : List A) (d : A) → n < length xs → xs ≡ take n xs ++ get_or xs n d ∷ drop (suc n) xs
split_at n [] d lt = absurd (omega (arith, lt))
split_at zero (x ∷ xs) d lt = refl
split_at (suc n) (x ∷ xs) d lt = ap (λ ys. x ∷ ys) (split_at n xs d (omega (arith, lt)))

reversed_at : {A : Type 0} (n : ℕ) (xs : List A) (d : A) → n < length xs → reverse xs ≡ (reverse (drop (suc n) xs) ++ get_or xs n d ∷ []) ++ reverse (take n xs)
reversed_at n xs d lt =
    ap reverse (split_at n xs d lt) ∙ reverse-append (take n xs) (get_or xs n d ∷ drop (suc n) xs)
    ∙ ap (λ ys. ys ++ reverse (take n xs)) (reverse-append (get_or xs n d ∷ []) (drop (suc n) xs))

earlier_here : (n : ℕ) (f : Function) (b : List Function) → length b ≡ n → earlier_than n (f ∷ b) ≡ b
earlier_here n f b e = ap (λ t. cond t b (earlier_than n b)) (eq-eqb (length b) n e)

earlier_later : (n : ℕ) (f : Function) (b : List Function) → n < length b → earlier_than n (f ∷ b) ≡ earlier_than n b
earlier_later n f b lt = go (length b == n) refl
  where
    go : (t : Bool) → (length b == n) ≡ t → cond t b (earlier_than n b) ≡ earlier_than n b
    go true e = let same = eqb-true (length b) n e in absurd (omega (arith, lt, same))
    go false e = refl

earlier_in : (n : ℕ) (a : List Function) (f : Function) (b : List Function) → length b ≡ n → earlier_than n ((a ++ f ∷ []) ++ b) ≡ b
earlier_in n [] f b e = earlier_here n f b e
earlier_in n (g ∷ a) f b e =
    let whole : length ((a ++ f ∷ []) ++ b) ≡ length a + 1 + length b = length-append (a ++ f ∷ []) b ∙ ap (λ k. k + length b) (length-append a (f ∷ [])) in
    earlier_later n g ((a ++ f ∷ []) ++ b) (omega (arith, whole, e)) ∙ earlier_in n a f b e

pub earlier_before : (l : Shelf) (n : ℕ) → n < length l.funs → earlier_than n (reverse (functions_of l)) ≡ before_at l n
earlier_before l n lt =
    ap (earlier_than n) (reversed_at n (functions_of l) nothing (subst (λ k. n < k) (sym (functions_length l)) lt))
    ∙ earlier_in n (reverse (drop (suc n) (functions_of l))) (function_at l n) (before_at l n) (length_before l n lt)
