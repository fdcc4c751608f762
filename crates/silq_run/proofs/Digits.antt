-- Binary digits of numbers in memory.
use Rattle.std.proofs.Common.{◌≡◌, ℕ, zero, suc, ◌+◌, ◌*◌, ◌/◌, ◌%◌, ◌^◌, ◌<◌, ◌≤◌, bit_xor, refl, sym, ap, ◌∙◌, arith, mod-lt}
use Rattle.std.proofs.Math.Nat.{div-eq_of_lt, pow-le-pow_right, mod-one}
use Rattle.std.proofs.lemmas.Nat.{xor_shr, xor_mod, mod-pow-add}
use Rattle.silq_mean.specs.Value.{digit, exclusive_or}

pub digit_high : (i a : ℕ) → a < 2 ^ 64 → 64 ≤ i → 0 ≡ digit i a
digit_high i a l h =
    let p : 2 ^ 64 ≤ 2 ^ i = pow-le-pow_right (omega arith) h in
    let q : a / 2 ^ i ≡ 0 = div-eq_of_lt (omega (arith, l, p)) in
    sym (ap (λ n. n % 2) q)

xor_small : (x y : ℕ) → x < 2 → y < 2 → bit_xor x y ≡ (x + y) % 2
xor_small zero zero l m = refl
xor_small zero (suc zero) l m = refl
xor_small (suc zero) zero l m = refl
xor_small (suc zero) (suc zero) l m = refl
xor_small (suc (suc x)) y l m = absurd (omega (arith, l))
xor_small zero (suc (suc y)) l m = absurd (omega (arith, m))
xor_small (suc zero) (suc (suc y)) l m = absurd (omega (arith, m))

xor_parity : (a b : ℕ) → bit_xor a b % 2 ≡ (a + b) % 2
xor_parity a b =
    xor_mod a b 1 ∙ xor_small (a % 2) (b % 2) (mod-lt a {m = 2} (omega arith)) (mod-lt b {m = 2} (omega arith)) ∙ omega arith

-- the exclusive or of the low n bits
pub exclusive_low : (n a b : ℕ) → bit_xor a b % 2 ^ n ≡ exclusive_or n a b
exclusive_low zero a b = mod-one (bit_xor a b)
exclusive_low (suc n) a b =
    let more : suc n ≡ n + 1 = omega arith in
    let next : bit_xor a b / 2 ≡ bit_xor (a / 2) (b / 2) = xor_shr a b 1 in
    let rest : bit_xor (a / 2) (b / 2) % 2 ^ n ≡ exclusive_or n (a / 2) (b / 2) = exclusive_low n (a / 2) (b / 2) in
    let split : bit_xor a b % 2 ^ suc n ≡ (bit_xor a b / 2 % 2 ^ n) * 2 + bit_xor a b % 2 = ap (λ k. bit_xor a b % 2 ^ k) more ∙ mod-pow-add (bit_xor a b) n 1 in
    let here : bit_xor a b / 2 % 2 ^ n ≡ exclusive_or n (a / 2) (b / 2) = ap (λ m. m % 2 ^ n) next ∙ rest in
    let low = xor_parity a b in
    omega (arith, split, here, low)
