-- Names with one more.
use Rattle.std.proofs.Common.{◌≡◌, ℕ, zero, suc, ◌+◌, ◌<◌, ◌⊎◌, inl, inr, Bool, true, false, cond, not, ◌||◌, List, [], ◌∷◌, ◌++◌, Some, None, map, position, slice_get, length, if◌then◌else◌, refl, sym, ◌∙◌, ap, arith}
use Rattle.std.specs.Prelude.{nat_lt}
use Rattle.std.specs.List.{list_any, position_or_len}
use Rattle.std.specs.Str.{bytes_eq}
use Rattle.std.proofs.lemmas.Bool.{ltb-true}
use Rattle.std.proofs.lemmas.Slice.Eq.{bytes_eq-Decides}
use Rattle.silq_tree.specs.Texts.{with_name, AreDifferent, KeepsNames}

pub list_any-map : {X Y : Type 0} (f : X → Y) (p : Y → Bool) (xs : List X) → list_any p (map f xs) ≡ list_any (λ x. p (f x)) xs
list_any-map f p [] = refl
list_any-map f p (x ∷ xs) = ap (λ b. p (f x) || b) (list_any-map f p xs)

pub map_if : {X Y : Type 0} (f : X → Y) (b : Bool) (xs : List X) (x : X) → map f (if b then xs else xs ++ x ∷ []) ≡ (if b then map f xs else map f xs ++ f x ∷ [])
map_if f true xs x = refl
map_if f false xs x = map_push xs
  where
    map_push : (ys : List _) → map f (ys ++ x ∷ []) ≡ map f ys ++ f x ∷ []
    map_push [] = refl
    map_push (y ∷ ys) = ap (λ z. f y ∷ z) (map_push ys)

pub slice_get-map : {X Y : Type 0} (f : X → Y) (xs : List X) (i : ℕ) (x : X) → slice_get xs i ≡ Some x → slice_get (map f xs) i ≡ Some (f x)
slice_get-map f [] i x e = cc
slice_get-map f (y ∷ ys) zero x e = let k : y ≡ x = cc in ap (λ z. Some (f z)) k
slice_get-map f (y ∷ ys) (suc i) x e = slice_get-map f ys i x e

-- a text that is there and one that is not
lacks : (text : List ℕ) (names : List (List ℕ)) (i : ℕ) → list_any (bytes_eq text) names ≡ false → slice_get names i ≡ Some text → ⊥
lacks text [] i e s = cc
lacks text (n ∷ ns) zero e s = let k : n ≡ text = cc in let t : bytes_eq text n ≡ true = (bytes_eq-Decides text n).1 (sym k) in or_false (bytes_eq text n) (list_any (bytes_eq text) ns) t e
  where
    or_false : (a b : Bool) → a ≡ true → (a || b) ≡ false → ⊥
    or_false true b f g = cc
    or_false false b f g = cc
lacks text (n ∷ ns) (suc i) e s = lacks text ns i (or_right (bytes_eq text n) (list_any (bytes_eq text) ns) e) s
  where
    or_right : (a b : Bool) → (a || b) ≡ false → b ≡ false
    or_right true b f = cc
    or_right false b f = f

at_end : (names : List (List ℕ)) (text other : List ℕ) (i : ℕ) → slice_get (names ++ text ∷ []) i ≡ Some other → (slice_get names i ≡ Some other) ⊎ ((i ≡ length names) × (text ≡ other))
at_end [] text other zero e = inr (refl, cc)
at_end [] text other (suc i) e = cc
at_end (n ∷ ns) text other zero e = inl e
at_end (n ∷ ns) text other (suc i) e = of (at_end ns text other i e)
  where
    of : (slice_get ns i ≡ Some other) ⊎ ((i ≡ length ns) × (text ≡ other)) → (slice_get ns i ≡ Some other) ⊎ ((suc i ≡ suc (length ns)) × (text ≡ other))
    of (inl h) = inl h
    of (inr h) = inr (ap suc h.0, h.1)

different_push : (names : List (List ℕ)) (text : List ℕ) → AreDifferent names → list_any (bytes_eq text) names ≡ false → AreDifferent (names ++ text ∷ [])
different_push names text d e i j t a b = of (at_end names text t i a) (at_end names text t j b)
  where
    of : (slice_get names i ≡ Some t) ⊎ ((i ≡ length names) × (text ≡ t)) → (slice_get names j ≡ Some t) ⊎ ((j ≡ length names) × (text ≡ t)) → i ≡ j
    of (inl h) (inl k) = d i j t h k
    of (inl h) (inr k) = absurd (lacks text names i e (h ∙ ap Some (sym k.1)))
    of (inr h) (inl k) = absurd (lacks text names j e (k ∙ ap Some (sym h.1)))
    of (inr h) (inr k) = h.0 ∙ sym k.0

pub different_with : (names : List (List ℕ)) (text : List ℕ) → AreDifferent names → AreDifferent (with_name names text)
different_with names text d = of (list_any (bytes_eq text) names) refl
  where
    of : (b : Bool) → list_any (bytes_eq text) names ≡ b → AreDifferent (if b then names else names ++ text ∷ [])
    of true e = d
    of false e = different_push names text d e

kept_push : (names : List (List ℕ)) (text : List ℕ) → KeepsNames names (names ++ text ∷ [])
kept_push [] text i t e = cc
kept_push (n ∷ ns) text zero t e = e
kept_push (n ∷ ns) text (suc i) t e = kept_push ns text i t e

kept_if : (names : List (List ℕ)) (text : List ℕ) (b : Bool) → KeepsNames names (if b then names else names ++ text ∷ [])
kept_if names text true i t e = e
kept_if names text false i t e = kept_push names text i t e

pub kept_with : (names : List (List ℕ)) (text : List ℕ) → KeepsNames names (with_name names text)
kept_with names text = kept_if names text (list_any (bytes_eq text) names)

pub nothing_different : AreDifferent []
nothing_different i j t a b = cc

-- the first place at which a test passes
abbrev IsFound : {X : Type 0} → (X → Bool) → List X → ℕ → Type 0
IsFound {X} p xs i = (x : X) × (slice_get xs i ≡ Some x) × (p x ≡ true)

found_step : {X : Type 0} (p : X → Bool) (x : X) (xs : List X) (b : Bool) (n : ℕ) → p x ≡ b → (n < length xs → IsFound p xs n) → cond (not b) (1 + n) 0 < length (x ∷ xs)
    → IsFound p (x ∷ xs) (cond (not b) (1 + n) 0)
found_step p x xs true n e h l = (x, refl, e)
found_step p x xs false n e h l =
    let (y, f, g) = h (omega arith) in let k : 1 + n ≡ suc n = omega arith in (y, rw k f, g)

found_from : {X : Type 0} (p : X → Bool) (xs : List X) → position_or_len p xs < length xs → IsFound p xs (position_or_len p xs)
found_from p [] l = absurd (omega arith)
found_from p (x ∷ xs) l = found_step p x xs (p x) (position_or_len p xs) refl (found_from p xs) l

found_if : {X : Type 0} (p : X → Bool) (xs : List X) (i : ℕ) (b : Bool) → nat_lt (position_or_len p xs) (length xs) ≡ b → Some i ≡ cond b (Some (position_or_len p xs)) None → IsFound p xs i
found_if p xs i true e f =
    let k : position_or_len p xs ≡ i = cc in
    let g : IsFound p xs (position_or_len p xs) = found_from p xs (ltb-true _ _ e) in
    rw (← k) g
found_if p xs i false e f = cc

-- the number of a text that is there
pub text_found : {X : Type 0} (f : X → List ℕ) (xs : List X) (text : List ℕ) (i : ℕ) → Some i ≡ position (λ x. bytes_eq text (f x)) xs → slice_get (map f xs) i ≡ Some text
text_found f xs text i e =
    let (x, h, p) = found_if (λ x. bytes_eq text (f x)) xs i (nat_lt (position_or_len (λ x. bytes_eq text (f x)) xs) (length xs)) refl e in
    slice_get-map f xs i x h ∙ ap Some (sym ((bytes_eq-Decides text (f x)).0 p))

-- a text that is there changes nothing
pub name_there : {X : Type 0} (f : X → List ℕ) (xs : List X) (text : List ℕ) → true ≡ list_any (λ x. bytes_eq text (f x)) xs → map f xs ≡ with_name (map f xs) text
name_there f xs text e =
    sym (ap (λ b. if b then map f xs else map f xs ++ text ∷ []) (list_any-map f (bytes_eq text) xs ∙ sym e))

-- a text that was inserted
pub name_inserted : {X : Type 0} (f : X → List ℕ) (xs ys : List X) (x : X) (text : List ℕ) → f x ≡ text
    → ys ≡ (if list_any (λ y. bytes_eq (f x) (f y)) xs then xs else xs ++ x ∷ []) → map f ys ≡ with_name (map f xs) text
name_inserted f xs ys x text e h =
    ap (map f) h ∙ map_if f (list_any (λ y. bytes_eq (f x) (f y)) xs) xs x
    ∙ ap (λ b. if b then map f xs else map f xs ++ f x ∷ []) (sym (list_any-map f (bytes_eq (f x)) xs))
    ∙ ap (λ t. with_name (map f xs) t) e

pub text_inserted : {X : Type 0} (f : X → List ℕ) (ys : List X) (x y : X) (i : ℕ) (text : List ℕ) → f x ≡ text → slice_get ys i ≡ Some y → bytes_eq (f x) (f y) ≡ true
    → slice_get (map f ys) i ≡ Some text
text_inserted f ys x y i text e h p = slice_get-map f ys i y h ∙ ap Some (sym ((bytes_eq-Decides (f x) (f y)).0 p) ∙ e)
