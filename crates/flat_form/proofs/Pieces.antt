-- Parts of lists: what stands from a place on, so much, and what stands outside it.
use Rattle.std.proofs.Common.{◌≡◌, ◌⊎◌, inl, inr, ℕ, ◌+◌, ◌-◌, ◌≤◌, ◌<◌, List, ◌++◌, length, map, take, drop, ℤ, sym, ap, ap₂, ◌∙◌, subst, arith, append_assoc, length-append, length-drop}
use Rattle.std.proofs.lemmas.Bool.{cases_lt}
use Rattle.std.proofs.lemmas.List.{append-nil, take_all, drop_all, map-append, take-map, drop-map, take_at, drop_at, length-take-le, drop-append-le, take-take, drop-drop, drop-take, take-append-drop}
use Rattle.std.proofs.Math.Seq.{take-add}
use Rattle.silq_types.specs.declared.types.Shape.{Shape}
use Rattle.silq_types.specs.Types.{shape_bits}
use Rattle.flat_form.specs.State.{outside, part_shape, part_start, part_of, with_part}

-- ---- each item changed

pub outside_map : {A B : Type 0} (f : A → B) (start size : ℕ) (xs : List A) → map f (outside start size xs) ≡ outside start size (map f xs)
outside_map f start size xs = map-append f (take start xs) (drop (start + size) xs) ∙ ap₂ ◌++◌ (sym (take-map f start xs)) (sym (drop-map f (start + size) xs))

pub part_map : {A B : Type 0} (f : A → B) (s : Shape) (is : List ℤ) (xs : List A) → map f (part_of s is xs) ≡ part_of s is (map f xs)
part_map f s is xs = sym (take-map f (shape_bits (part_shape s is)) (drop (part_start s is) xs)) ∙ ap (take (shape_bits (part_shape s is))) (sym (drop-map f (part_start s is) xs))

pub with_map : {A B : Type 0} (f : A → B) (s : Shape) (is : List ℤ) (xs new : List A) → map f (with_part s is xs new) ≡ with_part s is (map f xs) (map f new)
with_map f s is xs new =
    map-append f (take (part_start s is) xs) (new ++ drop (part_start s is + shape_bits (part_shape s is)) xs)
    ∙ ap₂ ◌++◌ (sym (take-map f (part_start s is) xs)) (map-append f new (drop (part_start s is + shape_bits (part_shape s is)) xs) ∙ ap (λ zs. map f new ++ zs) (sym (drop-map f (part_start s is + shape_bits (part_shape s is)) xs)))

-- ---- what stands outside a part

pub outside_before : {A : Type 0} (start size : ℕ) (xs : List A) → start ≤ length xs → take start (outside start size xs) ≡ take start xs
outside_before start size xs h = take_at (take start xs) (drop (start + size) xs) start (length-take-le start xs h)

pub outside_after : {A : Type 0} (start size : ℕ) (xs : List A) → start ≤ length xs → drop start (outside start size xs) ≡ drop (start + size) xs
outside_after start size xs h = drop_at (take start xs) (drop (start + size) xs) start (length-take-le start xs h)

pub same_before : {A : Type 0} (start size : ℕ) (xs ys : List A) → start ≤ length xs → length xs ≡ length ys → outside start size xs ≡ outside start size ys → take start xs ≡ take start ys
same_before start size xs ys h l e = sym (outside_before start size xs h) ∙ (ap (take start) e ∙ outside_before start size ys (subst (λ n. start ≤ n) l h))

pub same_after : {A : Type 0} (start size : ℕ) (xs ys : List A) → start ≤ length xs → length xs ≡ length ys → outside start size xs ≡ outside start size ys → drop (start + size) xs ≡ drop (start + size) ys
same_after start size xs ys h l e = sym (outside_after start size xs h) ∙ (ap (drop start) e ∙ outside_after start size ys (subst (λ n. start ≤ n) l h))

-- a list is what stands before a part, the part and what stands after it
pub split_at : {A : Type 0} (start size : ℕ) (xs : List A) → xs ≡ take start xs ++ (take size (drop start xs) ++ drop (start + size) xs)
split_at start size xs =
    sym (take-append-drop start xs)
    ∙ ap (λ zs. take start xs ++ zs) (sym (take-append-drop size (drop start xs)) ∙ ap (λ zs. take size (drop start xs) ++ zs) (drop-drop size start xs))

-- lists with the same part and the same outside it are the same
pub same_whole : {A : Type 0} (start size : ℕ) (xs ys : List A) → start ≤ length xs → length xs ≡ length ys → outside start size xs ≡ outside start size ys → take size (drop start xs) ≡ take size (drop start ys) → xs ≡ ys
same_whole start size xs ys h l e p =
    split_at start size xs
    ∙ (ap₂ ◌++◌ (same_before start size xs ys h l e) (ap₂ ◌++◌ p (same_after start size xs ys h l e))
    ∙ sym (split_at start size ys))

-- a part that has nothing of another one is the same where all outside that one is
pub same_apart : {A : Type 0} (start size at count : ℕ) (xs ys : List A) → start ≤ length xs → length xs ≡ length ys → (start + size ≤ at) ⊎ (at + count ≤ start) → outside start size xs ≡ outside start size ys → take count (drop at xs) ≡ take count (drop at ys)
same_apart start size at count xs ys h l (inl b) e =
    let k : (start + size) + (at - (start + size)) ≡ at = omega arith in
    ap (take count) (ap (λ n. drop n xs) (sym k) ∙ (sym (drop-drop (at - (start + size)) (start + size) xs)
    ∙ (ap (drop (at - (start + size))) (same_after start size xs ys h l e)
    ∙ (drop-drop (at - (start + size)) (start + size) ys ∙ ap (λ n. drop n ys) k))))
same_apart {A = A} start size at count xs ys h l (inr b) e = sym (front xs) ∙ (ap (λ zs. take count (drop at zs)) (same_before start size xs ys h l e) ∙ front ys)
  where
    front : (zs : List A) → take count (drop at (take start zs)) ≡ take count (drop at zs)
    front zs =
        let k : at + (start - at) ≡ start = omega arith in
        ap (λ n. take count (drop at (take n zs))) (sym k)
        ∙ (ap (take count) (drop-take at (start - at) zs) ∙ take-take count (start - at) (drop at zs) (omega arith))

-- past the end there is no part
past_end : {A : Type 0} (start size : ℕ) (xs : List A) → length xs ≤ start → outside start size xs ≡ xs
past_end start size xs h = ap₂ ◌++◌ (take_all start xs h) (drop_all (start + size) xs (omega arith)) ∙ append-nil xs

pub same_apart_from : {A : Type 0} (start size at count : ℕ) (xs ys : List A) → length xs ≡ length ys → (start + size ≤ at) ⊎ (at + count ≤ start) → outside start size xs ≡ outside start size ys → take count (drop at xs) ≡ take count (drop at ys)
same_apart_from start size at count xs ys l d e = pick (cases_lt (length xs) start)
  where
    pick : (length xs < start) ⊎ (start ≤ length xs) → take count (drop at xs) ≡ take count (drop at ys)
    pick (inr h) = same_apart start size at count xs ys h l d e
    pick (inl h) = ap (λ zs. take count (drop at zs)) (sym (past_end start size xs (omega arith)) ∙ (e ∙ past_end start size ys (omega (arith, l, h))))

-- ---- a part replaced

-- a new part in place of an old one
abbrev pub replaced : {A : Type 0} → ℕ → ℕ → List A → List A → List A
replaced start size xs new = take start xs ++ (new ++ drop (start + size) xs)

pub replaced_length : {A : Type 0} (start size : ℕ) (xs new : List A) → start + size ≤ length xs → length new ≡ size → length (replaced start size xs new) ≡ length xs
replaced_length start size xs new h l =
    let a : length (take start xs) ≡ start = length-take-le start xs (omega arith) in
    let d : length (drop (start + size) xs) ≡ length xs - (start + size) = length-drop (start + size) xs in
    length-append (take start xs) (new ++ drop (start + size) xs) ∙ (ap (λ n. length (take start xs) + n) (length-append new (drop (start + size) xs)) ∙ omega (arith, a, d, l, h))

pub replaced_outside : {A : Type 0} (start size : ℕ) (xs new : List A) → start + size ≤ length xs → length new ≡ size → outside start size (replaced start size xs new) ≡ outside start size xs
replaced_outside start size xs new h l =
    let a : length (take start xs) ≡ start = length-take-le start xs (omega arith) in
    let b : length (take start xs ++ new) ≡ start + size = length-append (take start xs) new ∙ ap₂ ◌+◌ a l in
    ap₂ ◌++◌ (take_at (take start xs) (new ++ drop (start + size) xs) start a)
    (ap (drop (start + size)) (sym (append_assoc (take start xs) new (drop (start + size) xs))) ∙ drop_at (take start xs ++ new) (drop (start + size) xs) (start + size) b)

pub replaced_part : {A : Type 0} (start size : ℕ) (xs new : List A) → start + size ≤ length xs → length new ≡ size → take size (drop start (replaced start size xs new)) ≡ new
replaced_part start size xs new h l =
    let a : length (take start xs) ≡ start = length-take-le start xs (omega arith) in
    ap (take size) (drop_at (take start xs) (new ++ drop (start + size) xs) start a) ∙ take_at new (drop (start + size) xs) size l

-- what was outside the part is all that counts
pub replaced_same : {A : Type 0} (start size : ℕ) (xs ys new : List A) → start ≤ length xs → length xs ≡ length ys → outside start size xs ≡ outside start size ys → replaced start size xs new ≡ replaced start size ys new
replaced_same start size xs ys new h l e = ap₂ ◌++◌ (same_before start size xs ys h l e) (ap (λ zs. new ++ zs) (same_after start size xs ys h l e))

-- the part put back
pub replaced_back : {A : Type 0} (start size : ℕ) (xs : List A) → replaced start size xs (take size (drop start xs)) ≡ xs
replaced_back start size xs = sym (split_at start size xs)

-- a list with the outside of another one is that one with its own part
pub replaced_by : {A : Type 0} (start size : ℕ) (xs ys : List A) → start ≤ length xs → length xs ≡ length ys → outside start size xs ≡ outside start size ys → xs ≡ replaced start size ys (take size (drop start xs))
replaced_by start size xs ys h l e = split_at start size xs ∙ replaced_same start size xs ys (take size (drop start xs)) h l e

-- ---- a part in a part

pub part_within : {A : Type 0} (start size at count : ℕ) (xs : List A) → start + size ≤ length xs → at + count ≤ size → take count (drop (start + at) xs) ≡ take count (drop at (take size (drop start xs)))
part_within start size at count xs h k =
    let m : at + (size - at) ≡ size = omega arith in
    ap (take count) (sym (drop-drop at start xs))
    ∙ (sym (take-take count (size - at) (drop at (drop start xs)) (omega arith))
    ∙ (ap (take count) (sym (drop-take at (size - at) (drop start xs))) ∙ ap (λ n. take count (drop at (take n (drop start xs)))) m))

pub replaced_within : {A : Type 0} (start size at count : ℕ) (xs new : List A) → start + size ≤ length xs → at + count ≤ size → replaced start size xs (replaced at count (take size (drop start xs)) new) ≡ replaced (start + at) count xs new
replaced_within start size at count xs new h k =
    let m : length (take size (drop start xs)) ≡ size = length-take-le size (drop start xs) (let d : length (drop start xs) ≡ length xs - start = length-drop start xs in omega (arith, d)) in
    let t : take at (take size (drop start xs)) ≡ take at (drop start xs) = take-take at size (drop start xs) (omega arith) in
    let e : start + (at + count) ≡ start + at + count = omega arith in
    let d : drop (at + count) (take size (drop start xs)) ++ drop (start + size) xs ≡ drop (start + at + count) xs =
    sym (drop-append-le (at + count) (take size (drop start xs)) (drop (start + size) xs) (omega (arith, m)))
    ∙ (ap (drop (at + count)) (ap (λ zs. take size (drop start xs) ++ zs) (sym (drop-drop size start xs)) ∙ take-append-drop size (drop start xs))
    ∙ (drop-drop (at + count) start xs ∙ ap (λ n. drop n xs) e)) in
    ap (λ zs. take start xs ++ zs) (append_assoc (take at (take size (drop start xs))) (new ++ drop (at + count) (take size (drop start xs))) (drop (start + size) xs))
    ∙ (sym (append_assoc (take start xs) (take at (take size (drop start xs))) ((new ++ drop (at + count) (take size (drop start xs))) ++ drop (start + size) xs))
    ∙ ap₂ ◌++◌ (ap (λ zs. take start xs ++ zs) t ∙ sym (take-add start at xs)) (append_assoc new (drop (at + count) (take size (drop start xs))) (drop (start + size) xs) ∙ ap (λ zs. new ++ zs) d))
