-- Bytes after bytes.
use Rattle.std.proofs.Common.{◌≡◌, ℕ, zero, suc, ◌+◌, ◌-◌, ◌<◌, ◌≤◌, List, [], ◌∷◌, ◌++◌, take, drop, length, Option, Some, None, Result, Ok, Err, OnErr, refl, sym, ◌∙◌, ap, arith, append_assoc, append-nil}
use Rattle.std.proofs.lemmas.Grind.{common_steps}
use Rattle.silq_io.specs.Counts.{Rose}
use Rattle.silq_io.specs.Sinks.{Adds, Breaks}

pub adds_none : (old : Option (List ℕ)) → Adds old old []
adds_none None = tt
adds_none (Some xs) = (xs, refl, sym (append-nil xs))

pub adds_more : (a b c : Option (List ℕ)) (xs ys : List ℕ) → Adds a b xs → Adds b c ys → Adds a c (xs ++ ys)
adds_more a b None xs ys f h = tt
adds_more a None (Some new) xs ys f h = cc
adds_more a (Some mid) (Some new) xs ys f h =
    let e : mid ≡ h.0 = cc (h.1) in
    (f.0, f.1, h.2 ∙ ap (λ w. w ++ ys) (sym e ∙ f.2) ∙ append_assoc f.0 xs ys)

pub rose_after : (a b c : ℕ) → a ≤ b → Rose b c → Rose a c
rose_after a b c l r = grind arith

-- a front and a front of the rest
take_more : (k n : ℕ) (bytes : List ℕ) → take k bytes ++ take n (drop k bytes) ≡ take (k + n) bytes
take_more zero n bytes = let e : zero + n ≡ n = omega arith in rw e refl
take_more (suc k) n [] = at_none n
  where
    at_none : (m : ℕ) → take {A = ℕ} m [] ≡ take {A = ℕ} (suc k + n) []
    at_none zero = let e : suc k + n ≡ suc (k + n) = omega arith in rw e refl
    at_none (suc m) = let e : suc k + n ≡ suc (k + n) = omega arith in rw e refl
take_more (suc k) n (b ∷ bs) = let e : suc k + n ≡ suc (k + n) = omega arith in rw e (ap (λ w. b ∷ w) (take_more k n bs))

-- a front is put, and then a front of the rest
pub adds_front : (a b c : Option (List ℕ)) (bytes : List ℕ) (k n : ℕ) → k ≤ length bytes → Adds a b (take k bytes)
    → Adds b c (take n (take (length bytes - k) (drop k bytes))) → Adds a c (take (k + n) bytes)
adds_front a b c bytes k n l f h =
    let all : take (length bytes - k) (drop k bytes) ≡ drop k bytes = grind (arith, common_steps) in
    rw (take_more k n bytes) at (adds_more a b c (take k bytes) (take n (drop k bytes)) f (rw all at h))

-- what broke in a front of a text broke in the text
pub breaks_front : (a b : Option (List ℕ)) (xs ys : List ℕ) → Breaks a b xs → Breaks a b (xs ++ ys)
breaks_front a b xs ys (n, l, h) =
    let l' : n < length (xs ++ ys) = grind (arith, common_steps) in
    let e : take n (xs ++ ys) ≡ take n xs = grind (arith, common_steps) in
    (n, l', rw e h)

take_past : (xs ys : List ℕ) (n : ℕ) → take (length xs + n) (xs ++ ys) ≡ xs ++ take n ys
take_past [] ys n = let e : 0 + n ≡ n = omega arith in rw e refl
take_past (x ∷ xs) ys n = let e : suc (length xs) + n ≡ suc (length xs + n) = omega arith in rw e (ap (λ w. x ∷ w) (take_past xs ys n))

-- what holds in any case holds where a call failed
pub on_err_from : {T E P : Type 0} (r : Result T E) → P → OnErr r P
on_err_from (Ok x) p = tt
on_err_from (Err e) p = p

-- a front was put, and the rest broke
pub breaks_rest : (a b c : Option (List ℕ)) (xs ys : List ℕ) → Adds a b xs → Breaks b c ys → Breaks a c (xs ++ ys)
breaks_rest a b c xs ys f (n, l, h) =
    let l' : length xs + n < length (xs ++ ys) = grind (arith, common_steps) in
    let e : take (length xs + n) (xs ++ ys) ≡ xs ++ take n ys = take_past xs ys n in
    (length xs + n, l', rw e (adds_more a b c xs (take n ys) f h))

pub ruleset pieces = (adds_more, breaks_front, breaks_rest, rose_after)
