-- Digits of numbers and items of lists of numbers, as parts of their bits.
use Rattle.std.proofs.Common.{◌≡◌, ℕ, zero, suc, ◌+◌, ◌-◌, ◌*◌, ◌^◌, ◌%◌, ◌/◌, ◌≤◌, ◌<◌, List, [], ◌∷◌, ◌++◌, length, get_or, take, drop, refl, sym, ap, ap₂, ◌∙◌, arith, pow-suc, mod-lt, length-append, drop-cons}
use Rattle.std.specs.Prelude.{◌==◌, set, replicate, flat_map}
use Rattle.std.proofs.Math.Nat.{div-div-eq-div-mul, mul-div-le, mul-le-mul_left, mod-le, le_trans}
use Rattle.std.proofs.Math.Seq.{take-add, drop-nil, take-nil}
use Rattle.std.proofs.lemmas.List.{take_at, drop_at, drop-drop, set_split}
use Rattle.std.proofs.lemmas.List.Concat.{flat_map-append}
use Rattle.silq_mean.specs.Value.{low_bits, digit, with_digit}
use Rattle.flat_form.specs.Names.{AllOf}
use Rattle.flat_form.proofs.Numbers.{low_length, low_one}
use Rattle.flat_form.proofs.Pieces.{replaced}

-- ---- digits

pub digit_below : (i a : ℕ) → digit i a < 2
digit_below i a = mod-lt (a / 2 ^ i) {m = 2} (omega arith)

digit_first : (a : ℕ) → digit 0 a ≡ a % 2
digit_first a = let e : a / 1 ≡ a = omega arith in ap (λ n. n % 2) e

digit_next : (i a : ℕ) → digit (suc i) a ≡ digit i (a / 2)
digit_next i a =
    let e : 2 ^ suc i ≡ 2 * 2 ^ i = rw pow-suc (omega arith) in
    ap (λ m. (a / m) % 2) e ∙ ap (λ n. n % 2) (sym (div-div-eq-div-mul a 2 (2 ^ i)))

-- one bit of a number below two
pub bit_of_small : (b : ℕ) → b < 2 → low_bits 1 b ≡ (b == 1) ∷ []
bit_of_small zero h = refl
bit_of_small (suc zero) h = refl
bit_of_small (suc (suc b)) h = absurd (omega (arith, h))

-- digit i stands at place i
pub digit_at : (n a i : ℕ) → i < n → take 1 (drop i (low_bits n a)) ≡ (digit i a == 1) ∷ []
digit_at zero a i h = absurd (omega (arith, h))
digit_at (suc n) a zero h = ap (λ d. (d == 1) ∷ []) (sym (digit_first a))
digit_at (suc n) a (suc i) h = digit_at n (a / 2) i (omega (arith, h)) ∙ ap (λ d. (d == 1) ∷ []) (sym (digit_next i a))

pub digit_bits : (n a i : ℕ) → i < n → low_bits 1 (digit i a) ≡ take 1 (drop i (low_bits n a))
digit_bits n a i h = bit_of_small (digit i a) (digit_below i a) ∙ sym (digit_at n a i h)

-- ---- a digit changed

with_first : (a b : ℕ) → with_digit 0 a b ≡ 2 * (a / 2) + b
with_first a b = let e : digit 0 a ≡ a % 2 = digit_first a in omega (arith, e)

part_small : (p h : ℕ) → p * ((h / p) % 2) ≤ h
part_small p h = le_trans (mul-le-mul_left p (mod-le (h / p) 2)) (mul-div-le h p)

with_next : (i a b : ℕ) → with_digit (suc i) a b ≡ a % 2 + 2 * with_digit i (a / 2) b
with_next i a b =
    let e : 2 ^ suc i ≡ 2 * 2 ^ i = rw pow-suc (omega arith) in
    let d : digit (suc i) a ≡ digit i (a / 2) = digit_next i a in
    let q : 2 ^ i * digit i (a / 2) ≤ a / 2 = part_small (2 ^ i) (a / 2) in
    ap₂ (λ m c. (a + m * b) - m * c) e d ∙ finish (2 ^ i) (a / 2) (a % 2) b (digit i (a / 2)) a (omega arith) q
  where
    finish : (p h r b d a : ℕ) → a ≡ 2 * h + r → p * d ≤ h → (a + 2 * p * b) - 2 * p * d ≡ r + 2 * ((h + p * b) - p * d)
    finish p h r b d a e q = omega arith

pub low_step : (n c h : ℕ) → c < 2 → low_bits (suc n) (c + 2 * h) ≡ (c == 1) ∷ low_bits n h
low_step n c h l =
    let e : (c + 2 * h) % 2 ≡ c = omega arith in
    let f : (c + 2 * h) / 2 ≡ h = omega arith in
    ap₂ (λ d m. (d == 1) ∷ low_bits n m) e f

pub low_with : (n a i b : ℕ) → i < n → b < 2 → low_bits n (with_digit i a b) ≡ take i (low_bits n a) ++ ((b == 1) ∷ drop (suc i) (low_bits n a))
low_with zero a i b h l = absurd (omega (arith, h))
low_with (suc n) a zero b h l = let e : with_digit 0 a b ≡ b + 2 * (a / 2) = with_first a b ∙ omega arith in ap (low_bits (suc n)) e ∙ low_step n b (a / 2) l
low_with (suc n) a (suc i) b h l =
    ap (low_bits (suc n)) (with_next i a b)
    ∙ (low_step n (a % 2) (with_digit i (a / 2) b) (mod-lt a {m = 2} (omega arith))
    ∙ ap (λ bs. (a % 2 == 1) ∷ bs) (low_with n (a / 2) i b (omega (arith, h)) l))

pub with_below : (n a i b : ℕ) → i < n → b < 2 → a < 2 ^ n → with_digit i a b < 2 ^ n
with_below zero a i b h l m = absurd (omega (arith, h))
with_below (suc n) a zero b h l m =
    let e : with_digit 0 a b ≡ 2 * (a / 2) + b = with_first a b in
    let p : 2 ^ suc n ≡ 2 ^ n * 2 = pow-suc 2 n in
    omega (arith, e, p, m, l)
with_below (suc n) a (suc i) b h l m =
    let e : with_digit (suc i) a b ≡ a % 2 + 2 * with_digit i (a / 2) b = with_next i a b in
    let p : 2 ^ suc n ≡ 2 ^ n * 2 = pow-suc 2 n in
    let r : with_digit i (a / 2) b < 2 ^ n = with_below n (a / 2) i b (omega (arith, h)) l (omega (arith, p, m)) in
    let c : a % 2 < 2 = mod-lt a {m = 2} (omega arith) in
    omega (arith, e, p, r, c)

-- the bits with one digit changed
pub with_bits : (n a i b : ℕ) → i < n → b < 2 → low_bits n (with_digit i a b) ≡ replaced i 1 (low_bits n a) (low_bits 1 b)
with_bits n a i b h l =
    let e : suc i ≡ i + 1 = omega arith in
    low_with n a i b h l ∙ (ap (λ bs. take i (low_bits n a) ++ (bs ++ drop (suc i) (low_bits n a))) (sym (bit_of_small b l)) ∙ ap (λ j. take i (low_bits n a) ++ (low_bits 1 b ++ drop j (low_bits n a))) e)

-- ---- items

pub items_length : (n : ℕ) (xs : List ℕ) → length (flat_map (low_bits n) xs) ≡ n * length xs
items_length n [] = omega arith
items_length n (x ∷ xs) =
    let a : length (low_bits n x) ≡ n = low_length n x in
    let r : length (flat_map (low_bits n) xs) ≡ n * length xs = items_length n xs in
    length-append (low_bits n x) (flat_map (low_bits n) xs) ∙ more n (length xs) (length (low_bits n x)) (length (flat_map (low_bits n) xs)) a r
  where
    more : (n l a b : ℕ) → a ≡ n → b ≡ n * l → a + b ≡ n * suc l
    more n l a b e f = omega arith

-- the bits from item i on, and those before it
pub items_from : (n : ℕ) (xs : List ℕ) (i : ℕ) → drop (i * n) (flat_map (low_bits n) xs) ≡ flat_map (low_bits n) (drop i xs)
items_from n xs zero = let e : 0 * n ≡ 0 = omega arith in ap (λ k. drop k (flat_map (low_bits n) xs)) e
items_from n [] (suc i) = drop-nil (suc i * n)
items_from n (x ∷ xs) (suc i) =
    let e : suc i * n ≡ n + i * n = omega arith in
    ap (λ k. drop k (low_bits n x ++ flat_map (low_bits n) xs)) e
    ∙ (sym (drop-drop (i * n) n (low_bits n x ++ flat_map (low_bits n) xs))
    ∙ (ap (drop (i * n)) (drop_at (low_bits n x) (flat_map (low_bits n) xs) n (low_length n x)) ∙ items_from n xs i))

pub items_before : (n : ℕ) (xs : List ℕ) (i : ℕ) → take (i * n) (flat_map (low_bits n) xs) ≡ flat_map (low_bits n) (take i xs)
items_before n xs zero = let e : 0 * n ≡ 0 = omega arith in ap (λ k. take k (flat_map (low_bits n) xs)) e
items_before n [] (suc i) = take-nil (suc i * n)
items_before n (x ∷ xs) (suc i) =
    let e : suc i * n ≡ n + i * n = omega arith in
    ap (λ k. take k (low_bits n x ++ flat_map (low_bits n) xs)) e
    ∙ (take-add n (i * n) (low_bits n x ++ flat_map (low_bits n) xs)
    ∙ ap₂ ◌++◌ (take_at (low_bits n x) (flat_map (low_bits n) xs) n (low_length n x)) (ap (take (i * n)) (drop_at (low_bits n x) (flat_map (low_bits n) xs) n (low_length n x)) ∙ items_before n xs i))

-- ---- one item

pub item_at : (n : ℕ) (xs : List ℕ) (i : ℕ) → i < length xs → take n (drop (i * n) (flat_map (low_bits n) xs)) ≡ low_bits n (get_or xs i 0)
item_at n xs i h =
    ap (take n) (items_from n xs i ∙ ap (flat_map (low_bits n)) (drop-cons xs i 0 h))
    ∙ take_at (low_bits n (get_or xs i 0)) (flat_map (low_bits n) (drop (suc i) xs)) n (low_length n (get_or xs i 0))

pub item_set : (n : ℕ) (xs : List ℕ) (i v : ℕ) → i < length xs → flat_map (low_bits n) (set xs i v) ≡ replaced (i * n) n (flat_map (low_bits n) xs) (low_bits n v)
item_set n xs i v h =
    let e : suc i * n ≡ i * n + n = omega arith in
    ap (flat_map (low_bits n)) (set_split xs i v h)
    ∙ (flat_map-append (low_bits n) (take i xs) (v ∷ drop (suc i) xs)
    ∙ ap₂ ◌++◌ (sym (items_before n xs i)) (ap (λ bs. low_bits n v ++ bs) (sym (items_from n xs (suc i)) ∙ ap (λ k. drop k (flat_map (low_bits n) xs)) e)))

-- items of no bits
pub no_items : (xs : List ℕ) → flat_map (low_bits 0) xs ≡ []
no_items [] = refl
no_items (x ∷ xs) = no_items xs

-- ---- items within their range

pub item_below : (m : ℕ) (xs : List ℕ) (i : ℕ) → 0 < m → AllOf (λ n. n < m) xs → get_or xs i 0 < m
item_below m [] i p h = p
item_below m (x ∷ xs) zero p h = h.0
item_below m (x ∷ xs) (suc i) p h = item_below m xs i p h.1

pub set_all : {A : Type 0} (Q : A → Type 0) (xs : List A) (i : ℕ) (v : A) → Q v → AllOf Q xs → AllOf Q (set xs i v)
set_all Q [] i v p h = tt
set_all Q (x ∷ xs) zero v p h = (p, h.1)
set_all Q (x ∷ xs) (suc i) v p h = (h.0, set_all Q xs i v p h.1)

pub repeat_all : {A : Type 0} (Q : A → Type 0) (n : ℕ) (v : A) → Q v → AllOf Q (replicate n v)
repeat_all Q zero v p = tt
repeat_all Q (suc n) v p = (p, repeat_all Q n v p)

-- lists of numbers within their range with the same bits are the same
pub items_one : (n : ℕ) (xs ys : List ℕ) → length xs ≡ length ys → AllOf (λ m. m < 2 ^ n) xs → AllOf (λ m. m < 2 ^ n) ys → flat_map (low_bits n) xs ≡ flat_map (low_bits n) ys → xs ≡ ys
items_one n [] [] l h k e = refl
items_one n [] (y ∷ ys) l h k e = cc
items_one n (x ∷ xs) [] l h k e = cc
items_one n (x ∷ xs) (y ∷ ys) l h k e =
    let a : low_bits n x ≡ low_bits n y =
    sym (take_at (low_bits n x) (flat_map (low_bits n) xs) n (low_length n x)) ∙ (ap (take n) e ∙ take_at (low_bits n y) (flat_map (low_bits n) ys) n (low_length n y)) in
    let b : flat_map (low_bits n) xs ≡ flat_map (low_bits n) ys =
    sym (drop_at (low_bits n x) (flat_map (low_bits n) xs) n (low_length n x)) ∙ (ap (drop n) e ∙ drop_at (low_bits n y) (flat_map (low_bits n) ys) n (low_length n y)) in
    ap₂ ◌∷◌ (low_one n x y h.0 k.0 a) (items_one n xs ys (omega (arith, l)) h.1 k.1 b)
