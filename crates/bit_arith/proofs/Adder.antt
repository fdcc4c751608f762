-- The carries and sums of two lists of bits, as numbers.
use Rattle.std.proofs.Common.{◌≡◌, ℕ, zero, suc, ◌+◌, ◌*◌, ◌^◌, ◌%◌, ◌/◌, ◌-◌, ◌<◌, Bool, true, false, not, ◌&&◌, List, [], ◌∷◌, length, map, refl, sym, ap, ap₂, ◌∙◌, subst, arith, pow-suc, mod-eq_of_lt, mod-lt, pow_pos}
use Rattle.std.specs.Prelude.{get_or, nat_le, ◌≤◌, if◌then◌else◌, ◌==◌}
use Rattle.std.proofs.lemmas.List.{length-map}
use Rattle.std.proofs.Math.Nat.{mul-add-mod_self_left, mod-add-div}
use Rattle.std.proofs.lemmas.Bool.{leb-true, le-leb, lt-leb}
use Rattle.std.proofs.lemmas.Bool.Decides.{same_from_decides}
use Rattle.flat_mean.specs.Row.{flipped}
use Rattle.bit_arith.specs.Numbers.{number, low_bits}

abbrev pub bit : Bool → ℕ
bit b = if b then 1 else 0

-- whether two of three bits are 1
abbrev pub majority : Bool → Bool → Bool → Bool
majority a b c = flipped (flipped (flipped false (a && b)) (a && c)) (b && c)

-- the carry into each place
abbrev pub carry_bits : Bool → List Bool → List Bool → List Bool
carry_bits c [] ys = []
carry_bits c (x ∷ []) ys = c ∷ []
carry_bits c (x ∷ x' ∷ xs) [] = c ∷ []
carry_bits c (x ∷ x' ∷ xs) (y ∷ ys) = c ∷ carry_bits (majority x y c) (x' ∷ xs) ys

-- two lists, and the carries, added place by place
abbrev pub sum_bits : List Bool → List Bool → List Bool → List Bool
sum_bits (x ∷ xs) (y ∷ ys) (c ∷ cs) = flipped (flipped x y) c ∷ sum_bits xs ys cs
sum_bits _ _ _ = []

-- what the sum leaves over
abbrev pub overflow : Bool → List Bool → List Bool → ℕ
overflow c [] ys = bit c
overflow c (x ∷ xs) [] = 0
overflow c (x ∷ xs) (y ∷ ys) = 2 * overflow (majority x y c) xs ys

-- the carry out of all places
abbrev pub carry_out : Bool → List Bool → List Bool → Bool
carry_out c (x ∷ xs) (y ∷ ys) = carry_out (majority x y c) xs ys
carry_out c _ _ = c

place : (x y c : Bool) → bit (flipped (flipped x y) c) + 2 * bit (majority x y c) ≡ bit x + bit y + bit c
place true true true = refl
place true true false = refl
place true false true = refl
place true false false = refl
place false true true = refl
place false true false = refl
place false false true = refl
place false false false = refl

pub full_add : (c : Bool) (xs ys : List Bool) → length xs ≡ length ys → number (sum_bits xs ys (carry_bits c xs ys)) + overflow c xs ys ≡ number xs + number ys + bit c
full_add c [] [] e = omega arith
full_add c [] (y ∷ ys) e = cc
full_add c (x ∷ xs) [] e = cc
full_add c (x ∷ []) (y ∷ []) e =
    let p : bit (flipped (flipped x y) c) + 2 * bit (majority x y c) ≡ bit x + bit y + bit c = place x y c in omega (arith, p)
full_add c (x ∷ []) (y ∷ y' ∷ ys) e = cc
full_add c (x ∷ x' ∷ xs) (y ∷ ys) e =
    let p : bit (flipped (flipped x y) c) + 2 * bit (majority x y c) ≡ bit x + bit y + bit c = place x y c in
    let r : number (sum_bits (x' ∷ xs) ys (carry_bits (majority x y c) (x' ∷ xs) ys)) + overflow (majority x y c) (x' ∷ xs) ys ≡ number (x' ∷ xs) + number ys + bit (majority x y c) = full_add (majority x y c) (x' ∷ xs) ys (omega (arith, e)) in
    omega (arith, p, r)

pub out_is : (c : Bool) (xs ys : List Bool) → length xs ≡ length ys → overflow c xs ys ≡ 2 ^ length xs * bit (carry_out c xs ys)
out_is c [] [] e = omega arith
out_is c [] (y ∷ ys) e = cc
out_is c (x ∷ xs) [] e = cc
out_is c (x ∷ xs) (y ∷ ys) e =
    let r : overflow (majority x y c) xs ys ≡ 2 ^ length xs * bit (carry_out (majority x y c) xs ys) = out_is (majority x y c) xs ys (omega (arith, e)) in
    rw (r, pow-suc) (omega arith)

pub number_below : (xs : List Bool) → number xs < 2 ^ length xs
number_below [] = omega arith
number_below (true ∷ xs) = let r : number xs < 2 ^ length xs = number_below xs in rw pow-suc (omega (arith, r))
number_below (false ∷ xs) = let r : number xs < 2 ^ length xs = number_below xs in rw pow-suc (omega (arith, r))

pub length-carries : (c : Bool) (xs ys : List Bool) → length xs ≡ length ys → length (carry_bits c xs ys) ≡ length xs
length-carries c [] ys e = refl
length-carries c (x ∷ []) ys e = refl
length-carries c (x ∷ x' ∷ xs) [] e = cc
length-carries c (x ∷ x' ∷ xs) (y ∷ ys) e = ap suc (length-carries (majority x y c) (x' ∷ xs) ys (omega (arith, e)))

pub length-sum : (xs ys cs : List Bool) → length xs ≡ length ys → length xs ≡ length cs → length (sum_bits xs ys cs) ≡ length xs
length-sum [] ys cs e f = refl
length-sum (x ∷ xs) [] cs e f = cc
length-sum (x ∷ xs) (y ∷ ys) [] e f = cc
length-sum (x ∷ xs) (y ∷ ys) (c ∷ cs) e f = ap suc (length-sum xs ys cs (omega (arith, e)) (omega (arith, f)))

pub mod_of_sum : (m r k s : ℕ) → r < m → m * k + r ≡ s → r ≡ s % m
mod_of_sum m r k s lt e = sym (ap (λ n. n % m) (sym e) ∙ (mul-add-mod_self_left m k r ∙ mod-eq_of_lt lt))

-- the sum of the bits is the sum of the numbers modulo 2^n
pub sum_number : (xs ys : List Bool) → length xs ≡ length ys → number (sum_bits xs ys (carry_bits false xs ys)) ≡ (number xs + number ys) % 2 ^ length xs
sum_number xs ys e =
    let s : List Bool = sum_bits xs ys (carry_bits false xs ys) in
    let o : overflow false xs ys ≡ 2 ^ length xs * bit (carry_out false xs ys) = out_is false xs ys e in
    let f : number s + overflow false xs ys ≡ number xs + number ys + 0 = full_add false xs ys e in
    let l : length s ≡ length xs = length-sum xs ys (carry_bits false xs ys) e (sym (length-carries false xs ys e)) in
    let lt : number s < 2 ^ length xs = subst (λ n. number s < 2 ^ n) l (number_below s) in
    mod_of_sum (2 ^ length xs) (number s) (bit (carry_out false xs ys)) (number xs + number ys) lt (omega (arith, o, f))

-- ---- the carry into each place

bit_le : (x : Bool) → bit x ≤ 1
bit_le true = omega arith
bit_le false = omega arith

mod_double : (x : Bool) (m k : ℕ) → 0 < k → (bit x + 2 * m) % (2 * k) ≡ bit x + 2 * (m % k)
mod_double x m k pos =
    let d : m % k + k * (m / k) ≡ m = mod-add-div m k in
    let lt : m % k < k = mod-lt m {m = k} pos in
    let b : bit x ≤ 1 = bit_le x in
    sym (mod_of_sum (2 * k) (bit x + 2 * (m % k)) (m / k) (bit x + 2 * m) (omega (arith, lt, b)) (twice (bit x) m (m % k) k (m / k) d))
  where
    twice : (b m r k q : ℕ) → r + k * q ≡ m → 2 * k * q + (b + 2 * r) ≡ b + 2 * m
    twice b m r k q e = omega (arith, e)

half_le : (k m s : ℕ) → s ≤ 1 → nat_le k m ≡ nat_le (2 * k) (s + 2 * m)
half_le k m s le = same_from_decides (nat_le k m) (nat_le (2 * k) (s + 2 * m)) (leb-true k m, le-leb k m)
    (λ h. (let z = leb-true (2 * k) (s + 2 * m) h in omega (arith, z, le)), λ h. le-leb (2 * k) (s + 2 * m) (omega (arith, h)))

first : (c : Bool) (m n : ℕ) → c ≡ nat_le (2 ^ 0) (m % 2 ^ 0 + n % 2 ^ 0 + bit c)
first true m n = sym (le-leb (2 ^ 0) (m % 2 ^ 0 + n % 2 ^ 0 + 1) (omega arith))
first false m n = sym (lt-leb (2 ^ 0) (m % 2 ^ 0 + n % 2 ^ 0 + 0) (omega arith))

-- with a carry into the lowest place
pub carry_at : (c : Bool) (xs ys : List Bool) (i : ℕ) → length xs ≡ length ys → i < length xs → get_or (carry_bits c xs ys) i false ≡ nat_le (2 ^ i) (number xs % 2 ^ i + number ys % 2 ^ i + bit c)
carry_at c [] ys i e h = absurd (omega (arith, h))
carry_at c (x ∷ []) ys zero e h = first c (number (x ∷ [])) (number ys)
carry_at c (x ∷ []) ys (suc i) e h = absurd (omega (arith, h))
carry_at c (x ∷ x' ∷ xs) [] i e h = cc
carry_at c (x ∷ x' ∷ xs) (y ∷ ys) zero e h = first c (number (x ∷ x' ∷ xs)) (number (y ∷ ys))
carry_at c (x ∷ x' ∷ xs) (y ∷ ys) (suc i) e h =
    let k : ℕ = 2 ^ i in
    let d : 2 ^ suc i ≡ 2 * k = rw pow-suc (omega arith) in
    let pos : 0 < k = pow_pos i in
    let p : bit (flipped (flipped x y) c) + 2 * bit (majority x y c) ≡ bit x + bit y + bit c = place x y c in
    let mx : number (x ∷ x' ∷ xs) % (2 * k) ≡ bit x + 2 * (number (x' ∷ xs) % k) = mod_double x (number (x' ∷ xs)) k pos in
    let my : number (y ∷ ys) % (2 * k) ≡ bit y + 2 * (number ys % k) = mod_double y (number ys) k pos in
    let total : bit (flipped (flipped x y) c) + 2 * (number (x' ∷ xs) % k + number ys % k + bit (majority x y c)) ≡ number (x ∷ x' ∷ xs) % (2 * k) + number (y ∷ ys) % (2 * k) + bit c = omega (arith, p, mx, my) in
    carry_at (majority x y c) (x' ∷ xs) ys i (omega (arith, e)) (omega (arith, h))
    ∙ (half_le k (number (x' ∷ xs) % k + number ys % k + bit (majority x y c)) (bit (flipped (flipped x y) c)) (bit_le (flipped (flipped x y) c))
    ∙ (ap (λ m. nat_le (2 * k) m) total ∙ ap (λ m. nat_le m (number (x ∷ x' ∷ xs) % m + number (y ∷ ys) % m + bit c)) (sym d)))

-- ---- bits of one length with one number are the same

bit_apart : (a b : Bool) (m n : ℕ) → bit a + 2 * m ≡ bit b + 2 * n → (a ≡ b) × (m ≡ n)
bit_apart true true m n e = (refl, omega (arith, e))
bit_apart true false m n e = absurd (omega (arith, e))
bit_apart false true m n e = absurd (omega (arith, e))
bit_apart false false m n e = (refl, omega (arith, e))

pub number_one : (xs ys : List Bool) → length xs ≡ length ys → number xs ≡ number ys → xs ≡ ys
number_one [] [] e n = refl
number_one [] (y ∷ ys) e n = cc
number_one (x ∷ xs) [] e n = cc
number_one (x ∷ xs) (y ∷ ys) e n =
    let (a, b) = bit_apart x y (number xs) (number ys) n in
    ap₂ ◌∷◌ a (number_one xs ys (omega (arith, e)) b)

low_bit : (m : ℕ) → bit (m % 2 == 1) ≡ m % 2
low_bit m = pick (m % 2) (mod-lt m {m = 2} (omega arith))
  where
    pick : (r : ℕ) → r < 2 → bit (r == 1) ≡ r
    pick zero h = refl
    pick (suc zero) h = refl
    pick (suc (suc r)) h = absurd (omega (arith, h))

pub length-low : (n m : ℕ) → length (low_bits n m) ≡ n
length-low zero m = refl
length-low (suc n) m = ap suc (length-low n (m / 2))

pub number_low : (n m : ℕ) → m < 2 ^ n → number (low_bits n m) ≡ m
number_low zero m h = omega (arith, h)
number_low (suc n) m h =
    let p : 2 ^ suc n ≡ 2 ^ n * 2 = pow-suc 2 n in
    let r : number (low_bits n (m / 2)) ≡ m / 2 = number_low n (m / 2) (omega (arith, h, p)) in
    let b : bit (m % 2 == 1) ≡ m % 2 = low_bit m in
    omega (arith, r, b)

-- the bits of a number below 2^n
pub low_number : (xs : List Bool) (n m : ℕ) → length xs ≡ n → number xs ≡ m → xs ≡ low_bits n m
low_number xs n m l e =
    let lt : m < 2 ^ n = subst (λ k. m < 2 ^ k) l (subst (λ k. k < 2 ^ length xs) e (number_below xs)) in
    number_one xs (low_bits n m) (l ∙ sym (length-low n m)) (e ∙ sym (number_low n m lt))

-- ---- subtraction by the carries of (not a) + b

abbrev pub nots : List Bool → List Bool
nots xs = map not xs

pub length-nots : (xs : List Bool) → length (nots xs) ≡ length xs
length-nots xs = length-map xs not

pub number_nots : (xs : List Bool) → number (nots xs) + number xs + 1 ≡ 2 ^ length xs
number_nots [] = refl
number_nots (true ∷ xs) = let r : number (nots xs) + number xs + 1 ≡ 2 ^ length xs = number_nots xs in rw pow-suc (omega (arith, r))
number_nots (false ∷ xs) = let r : number (nots xs) + number xs + 1 ≡ 2 ^ length xs = number_nots xs in rw pow-suc (omega (arith, r))

swap_not : (x y c : Bool) → flipped (flipped (not x) y) c ≡ not (flipped (flipped x y) c)
swap_not true true true = refl
swap_not true true false = refl
swap_not true false true = refl
swap_not true false false = refl
swap_not false true true = refl
swap_not false true false = refl
swap_not false false true = refl
swap_not false false false = refl

nots_sum : (xs ys cs : List Bool) → sum_bits (nots xs) ys cs ≡ nots (sum_bits xs ys cs)
nots_sum [] ys cs = refl
nots_sum (x ∷ xs) [] cs = refl
nots_sum (x ∷ xs) (y ∷ ys) [] = refl
nots_sum (x ∷ xs) (y ∷ ys) (c ∷ cs) = ap₂ ◌∷◌ (swap_not x y c) (nots_sum xs ys cs)

-- the difference of the bits is that of the numbers modulo 2^n
pub difference_number : (xs ys : List Bool) → length xs ≡ length ys → number (sum_bits xs ys (carry_bits false (nots xs) ys)) ≡ (number xs + (2 ^ length xs - number ys)) % 2 ^ length xs
difference_number xs ys e =
    let zs : List Bool = nots xs in
    let cs : List Bool = carry_bits false zs ys in
    let lz : length zs ≡ length xs = length-nots xs in
    let le : length zs ≡ length ys = lz ∙ e in
    let d : List Bool = sum_bits xs ys cs in
    let f : number (sum_bits zs ys cs) + overflow false zs ys ≡ number zs + number ys + 0 = full_add false zs ys le in
    let f' : number (nots d) + overflow false zs ys ≡ number zs + number ys + 0 = ap (λ ws. number ws + overflow false zs ys) (sym (nots_sum xs ys cs)) ∙ f in
    let o : overflow false zs ys ≡ 2 ^ length xs * bit (carry_out false zs ys) = out_is false zs ys le ∙ ap (λ k. 2 ^ k * bit (carry_out false zs ys)) lz in
    let m : number zs + number xs + 1 ≡ 2 ^ length xs = number_nots xs in
    let ld : length d ≡ length xs = length-sum xs ys cs e (sym (length-carries false zs ys le ∙ lz)) in
    let md : number (nots d) + number d + 1 ≡ 2 ^ length xs = number_nots d ∙ ap (λ k. 2 ^ k) ld in
    let lt : number d < 2 ^ length xs = subst (λ n. number d < 2 ^ n) ld (number_below d) in
    let ly : number ys < 2 ^ length xs = subst (λ n. number ys < 2 ^ n) (sym e) (number_below ys) in
    pick (carry_out false zs ys) (2 ^ length xs) (number xs) (number ys) (number zs) (number d) (number (nots d)) (overflow false zs ys) f' o m md lt ly
  where
    pick : (c : Bool) (n x y z d nd o : ℕ) → nd + o ≡ z + y + 0 → o ≡ n * bit c → z + x + 1 ≡ n → nd + d + 1 ≡ n → d < n → y < n → d ≡ (x + (n - y)) % n
    pick true n x y z d nd o f g m q lt ly = mod_of_sum n d 0 (x + (n - y)) lt (omega (arith, f, g, m, q, lt, ly))
    pick false n x y z d nd o f g m q lt ly = mod_of_sum n d 1 (x + (n - y)) lt (omega (arith, f, g, m, q, lt, ly))
