-- The order of numbers, with and without a sign, by the carry out of (not a) + b.
use Rattle.std.proofs.Common.{◌≡◌, ℕ, suc, ◌+◌, ◌-◌, ◌*◌, ◌^◌, ◌≤◌, ◌<◌, Bool, true, false, cond, not, ◌&&◌, List, [], ◌∷◌, length, refl, sym, ap, ap₂, ◌∙◌, subst, arith, pow-suc}
use Rattle.std.specs.Prelude.{ℤ, pos, ◌-ℤ◌, ◌<ℤ◌, nat_lt, int_lt, T, ◌==◌}
use Rattle.std.specs.Int.Signed.{lt_z_yes}
use Rattle.std.proofs.lemmas.Int.{ints}
use Rattle.std.proofs.lemmas.Bool.{ltb-true, ltb-false, lt-ltb, le-ltb}
use Rattle.std.proofs.lemmas.Bool.Decides.{Decides-ltb, same_from_decides}
use Rattle.sum_laws.specs.Terms.{same_bit, same_bits}
use Rattle.bit_arith.specs.Numbers.{number, signed_value}
use Rattle.bit_arith.proofs.Adder.{bit, carry_bits, sum_bits, overflow, carry_out, full_add, out_is, number_below, length-carries, length-sum, nots, length-nots, number_nots}

-- the carry out of (not a) + b tells whether a is below b
pub below_is : (xs ys : List Bool) → length xs ≡ length ys → carry_out false (nots xs) ys ≡ nat_lt (number xs) (number ys)
below_is xs ys e =
    let n : ℕ = 2 ^ length xs in
    let zs : List Bool = nots xs in
    let lz : length zs ≡ length xs = length-nots xs in
    let le : length zs ≡ length ys = lz ∙ e in
    let s : List Bool = sum_bits zs ys (carry_bits false zs ys) in
    let f : number s + overflow false zs ys ≡ number zs + number ys + 0 = full_add false zs ys le in
    let o : overflow false zs ys ≡ n * bit (carry_out false zs ys) = out_is false zs ys le ∙ ap (λ k. 2 ^ k * bit (carry_out false zs ys)) lz in
    let m : number zs + number xs + 1 ≡ n = number_nots xs in
    let ls : length s ≡ length xs = length-sum zs ys (carry_bits false zs ys) le (sym (length-carries false zs ys le)) ∙ lz in
    let lt : number s < n = subst (λ k. number s < 2 ^ k) ls (number_below s) in
    pick (carry_out false zs ys) n (number xs) (number ys) (number zs) (number s) (overflow false zs ys) f o m lt
  where
    pick : (b : Bool) (n x y z s o : ℕ) → s + o ≡ z + y + 0 → o ≡ n * bit b → z + x + 1 ≡ n → s < n → b ≡ nat_lt x y
    pick true n x y z s o f g m l = sym (lt-ltb x y (omega (arith, f, g, m, l)))
    pick false n x y z s o f g m l = sym (le-ltb x y (omega (arith, f, g, m, l)))

-- ---- signs

-- the top bit flipped
abbrev pub top_not : List Bool → List Bool
top_not [] = []
top_not (x ∷ []) = not x ∷ []
top_not (x ∷ y ∷ xs) = x ∷ top_not (y ∷ xs)

pub length-top : (xs : List Bool) → length (top_not xs) ≡ length xs
length-top [] = refl
length-top (x ∷ []) = refl
length-top (x ∷ y ∷ xs) = ap suc (length-top (y ∷ xs))

-- it moves the number by half of 2^n, up or down
record Moved (a b half : ℕ) : Type 0 where
  low : a < half → b ≡ a + half
  high : half ≤ a → a ≡ b + half
  below : a < 2 * half

moved_next : (x a b half : ℕ) → x ≤ 1 → Moved a b half → Moved (x + 2 * a) (x + 2 * b) (2 * half)
moved_next x a b half le m = record {
  low = λ h. let e = m.low (omega (arith, h)) in omega (arith, e);
  high = λ h. let e = m.high (omega (arith, h, le)) in omega (arith, e);
  below = let l = m.below in omega (arith, l, le);
}

bit_small : (x : Bool) → bit x ≤ 1
bit_small true = omega arith
bit_small false = omega arith

moved : (x : Bool) (xs : List Bool) → Moved (number (x ∷ xs)) (number (top_not (x ∷ xs))) (2 ^ length xs)
moved true [] = record { low = λ h. absurd (omega (arith, h)); high = λ h. refl; below = omega arith }
moved false [] = record { low = λ h. refl; high = λ h. absurd (omega (arith, h)); below = omega arith }
moved x (y ∷ xs) =
    subst (λ k. Moved (number (x ∷ y ∷ xs)) (number (top_not (x ∷ y ∷ xs))) k) (double (length xs))
    (moved_next (bit x) (number (y ∷ xs)) (number (top_not (y ∷ xs))) (2 ^ length xs) (bit_small x) (moved y xs))
  where
    double : (n : ℕ) → 2 * 2 ^ n ≡ 2 ^ suc n
    double n = rw pow-suc (omega arith)

of_T : (b : Bool) → T b → b ≡ true
of_T true t = refl
of_T false t = absurd t

to_T : (b : Bool) → b ≡ true → T b
to_T true e = tt
to_T false e = cc

int_true : (x y : ℤ) → x <ℤ y → int_lt x y ≡ true
int_true x y h = of_T (int_lt x y) h.lt

int_below : (x y : ℤ) → int_lt x y ≡ true → x <ℤ y
int_below x y h = lt_z_yes (to_T (int_lt x y) h)

-- so it keeps the order of the values with a sign
signed_pick : (a a' b b' half : ℕ) → Moved a a' half → Moved b b' half → nat_lt a' b' ≡ int_lt (cond (nat_lt a half) (pos a) (pos a -ℤ pos (2 * half))) (cond (nat_lt b half) (pos b) (pos b -ℤ pos (2 * half)))
signed_pick a a' b b' half m n = go (nat_lt a half) (nat_lt b half) refl refl
  where
    go : (x y : Bool) → nat_lt a half ≡ x → nat_lt b half ≡ y → nat_lt a' b' ≡ int_lt (cond x (pos a) (pos a -ℤ pos (2 * half))) (cond y (pos b) (pos b -ℤ pos (2 * half)))
    go true true e f =
        let p = m.low (ltb-true a half e) in
        let q = n.low (ltb-true b half f) in
        same_from_decides (nat_lt a' b') (int_lt (pos a) (pos b)) (Decides-ltb a' b')
        (λ h. (let z = int_below (pos a) (pos b) h in omega (arith, ints, p, q, z)), λ h. int_true (pos a) (pos b) (omega (arith, ints, p, q, h)))
    go true false e f =
        let p = m.low (ltb-true a half e) in
        let q = n.high (ltb-false b half f) in
        let r = n.below in
        same_from_decides (nat_lt a' b') (int_lt (pos a) (pos b -ℤ pos (2 * half))) (Decides-ltb a' b')
        (λ h. (let z = int_below (pos a) (pos b -ℤ pos (2 * half)) h in omega (arith, ints, p, q, r, z)), λ h. int_true (pos a) (pos b -ℤ pos (2 * half)) (omega (arith, ints, p, q, r, h)))
    go false true e f =
        let p = m.high (ltb-false a half e) in
        let q = n.low (ltb-true b half f) in
        let r = m.below in
        same_from_decides (nat_lt a' b') (int_lt (pos a -ℤ pos (2 * half)) (pos b)) (Decides-ltb a' b')
        (λ h. (let z = int_below (pos a -ℤ pos (2 * half)) (pos b) h in omega (arith, ints, p, q, r, z)), λ h. int_true (pos a -ℤ pos (2 * half)) (pos b) (omega (arith, ints, p, q, r, h)))
    go false false e f =
        let p = m.high (ltb-false a half e) in
        let q = n.high (ltb-false b half f) in
        same_from_decides (nat_lt a' b') (int_lt (pos a -ℤ pos (2 * half)) (pos b -ℤ pos (2 * half))) (Decides-ltb a' b')
        (λ h. (let z = int_below (pos a -ℤ pos (2 * half)) (pos b -ℤ pos (2 * half)) h in omega (arith, ints, p, q, z)), λ h. int_true (pos a -ℤ pos (2 * half)) (pos b -ℤ pos (2 * half)) (omega (arith, ints, p, q, h)))

pub signed_below : (xs ys : List Bool) → length xs ≡ length ys → nat_lt (number (top_not xs)) (number (top_not ys)) ≡ int_lt (signed_value (length xs) (number xs)) (signed_value (length xs) (number ys))
signed_below [] [] e = refl
signed_below [] (y ∷ ys) e = cc
signed_below (x ∷ xs) [] e = cc
signed_below (x ∷ xs) (y ∷ ys) e =
    let n : ℕ = length xs in
    let l : n ≡ length ys = omega (arith, e) in
    let p : Moved (number (x ∷ xs)) (number (top_not (x ∷ xs))) (2 ^ n) = moved x xs in
    let q : Moved (number (y ∷ ys)) (number (top_not (y ∷ ys))) (2 ^ n) = subst (λ k. Moved (number (y ∷ ys)) (number (top_not (y ∷ ys))) (2 ^ k)) (sym l) (moved y ys) in
    signed_pick (number (x ∷ xs)) (number (top_not (x ∷ xs))) (number (y ∷ ys)) (number (top_not (y ∷ ys))) (2 ^ n) p q ∙ named (number (x ∷ xs)) (number (y ∷ ys)) n
  where
    named : (a b n : ℕ) → int_lt (cond (nat_lt a (2 ^ n)) (pos a) (pos a -ℤ pos (2 * 2 ^ n))) (cond (nat_lt b (2 ^ n)) (pos b) (pos b -ℤ pos (2 * 2 ^ n))) ≡ int_lt (signed_value (suc n) a) (signed_value (suc n) b)
    named a b n =
        let h : suc n - 1 ≡ n = omega arith in
        let d : 2 ^ suc n ≡ 2 * 2 ^ n = rw pow-suc (omega arith) in
        ap₂ (λ i j. int_lt (cond (nat_lt a (2 ^ i)) (pos a) (pos a -ℤ pos j)) (cond (nat_lt b (2 ^ i)) (pos b) (pos b -ℤ pos j))) (sym h) (sym d)

-- ---- equality

same_number : (x y : Bool) (m n : ℕ) → same_bit x y && (m == n) ≡ (bit x + 2 * m == bit y + 2 * n)
same_number true true m n = grind arith
same_number true false m n = grind arith
same_number false true m n = grind arith
same_number false false m n = grind arith

-- bits of one length are the same exactly where their numbers are
pub same_bits_numbers : (xs ys : List Bool) → length xs ≡ length ys → same_bits xs ys ≡ (number xs == number ys)
same_bits_numbers [] [] e = refl
same_bits_numbers [] (y ∷ ys) e = cc
same_bits_numbers (x ∷ xs) [] e = cc
same_bits_numbers (x ∷ xs) (y ∷ ys) e = ap (λ b. same_bit x y && b) (same_bits_numbers xs ys (omega (arith, e))) ∙ same_number x y (number xs) (number ys)
