-- The bits of numbers in two's complement.
use Rattle.std.proofs.Common.{◌≡◌, ℕ, zero, suc, ◌+◌, ◌*◌, ◌^◌, ◌%◌, ◌/◌, ◌-◌, ◌<◌, ◌==◌, Bool, true, false, not, List, [], ◌∷◌, ◌++◌, map, ℤ, pos, negsuc, nat_abs, Result, Ok, Err, IfOk, refl, sym, ap, ap₂, ◌∙◌, arith, pow-suc, mod-lt, pow_pos}
use Rattle.std.specs.Prelude.{int_lt}
use Rattle.std.proofs.Math.Nat.{mod-add-div}
use Rattle.silq_mean.specs.Value.{low_bits, modulo}
use Rattle.flat_mean.specs.Row.{flipped}
use Rattle.bit_arith.specs.declared.operand.Operand.{Operand}
use Rattle.bit_arith.specs.declared.operand.Operand.TheVariants.{Const}
use Rattle.bit_arith.proofs.Adder.{mod_of_sum}
use Rattle.flat_form.proofs.Digits.{low_step}

-- a number modulo 2 * k by its lowest bit and the others
halves : (a k : ℕ) → 0 < k → a % (2 * k) ≡ a % 2 + 2 * ((a / 2) % k)
halves a k some =
    let h : ℕ = a / 2 in
    let d : h % k + k * (h / k) ≡ h = mod-add-div h k in
    let lt : h % k < k = mod-lt h {m = k} some in
    sym (mod_of_sum (2 * k) (a % 2 + 2 * (h % k)) (h / k) a (omega (arith, lt)) (joined a h (a % 2) (h % k) k (h / k) (omega arith) d))
  where
    joined : (a h c r k q : ℕ) → a ≡ c + 2 * h → r + k * q ≡ h → 2 * k * q + (c + 2 * r) ≡ a
    joined a h c r k q e d = omega (arith, e, d)

power : (w : ℕ) → 2 ^ suc w ≡ 2 * 2 ^ w
power w = rw pow-suc (omega arith)

bit_below : (a : ℕ) → a % 2 < 2
bit_below a = omega arith

-- the low bits of a number do not see the others
low_rest : (w a : ℕ) → low_bits w (a % 2 ^ w) ≡ low_bits w a
low_rest zero a = refl
low_rest (suc w) a =
    let e : a % 2 ^ suc w ≡ a % 2 + 2 * ((a / 2) % 2 ^ w) = ap (λ (m : ℕ). a % m) (power w) ∙ halves a (2 ^ w) (pow_pos w) in
    ap (low_bits (suc w)) e ∙ low_step w (a % 2) ((a / 2) % 2 ^ w) (bit_below a) ∙ ap (λ (bs : List Bool). (a % 2 == 1) ∷ bs) (low_rest w (a / 2))

other_bit : (c : ℕ) → c < 2 → (1 - c == 1) ≡ not (c == 1)
other_bit c h = grind arith

-- from the top down they are the others
low_before : (w a : ℕ) → low_bits w (2 ^ w - suc (a % 2 ^ w)) ≡ map not (low_bits w a)
low_before zero a = refl
low_before (suc w) a =
    let p : 2 ^ suc w ≡ 2 * 2 ^ w = power w in
    let r : ℕ = (a / 2) % 2 ^ w in
    let e : a % 2 ^ suc w ≡ a % 2 + 2 * r = ap (λ (m : ℕ). a % m) p ∙ halves a (2 ^ w) (pow_pos w) in
    let lt : r < 2 ^ w = mod-lt (a / 2) {m = 2 ^ w} (pow_pos w) in
    let f : 2 ^ suc w - suc (a % 2 ^ suc w) ≡ (1 - a % 2) + 2 * (2 ^ w - suc r) = ap₂ (λ (m k : ℕ). m - suc k) p e ∙ turned (2 ^ w) (a % 2) r lt (bit_below a) in
    ap (low_bits (suc w)) f
    ∙ low_step w (1 - a % 2) (2 ^ w - suc r) (omega arith)
    ∙ ap₂ (λ (b : Bool) (bs : List Bool). b ∷ bs) (other_bit (a % 2) (bit_below a)) (low_before w (a / 2))
  where
    turned : (m c r : ℕ) → r < m → c < 2 → 2 * m - suc (c + 2 * r) ≡ (1 - c) + 2 * (m - suc r)
    turned m c r lt small = omega (arith, lt, small)

consts_of_others : (bs : List Bool) → map (λ (b : Bool). Const b) (map not bs) ≡ map (λ (b : Bool). Const (flipped b true)) bs
consts_of_others [] = refl
consts_of_others (b ∷ bs) = ap (λ (ps : List Operand). Const (not b) ∷ ps) (consts_of_others bs)

pub positive_bits : (w n : ℕ) → map (λ (b : Bool). Const b) (low_bits w (modulo (pos n) (2 ^ w))) ≡ map (λ (b : Bool). Const (flipped b false)) (low_bits w n)
positive_bits w n = ap (map (λ (b : Bool). Const b)) (low_rest w n)

pub negative_bits : (w n : ℕ) → map (λ (b : Bool). Const b) (low_bits w (modulo (negsuc n) (2 ^ w))) ≡ map (λ (b : Bool). Const (flipped b true)) (low_bits w n)
negative_bits w n = ap (map (λ (b : Bool). Const b)) (low_before w n) ∙ consts_of_others (low_bits w n)

-- by the size of the number
pub bits_from_zero : (w size : ℕ) (z : ℤ) → size ≡ nat_abs z → int_lt z (pos 0) ≡ false → map (λ (b : Bool). Const (flipped b false)) (low_bits w size) ≡ map (λ (b : Bool). Const b) (low_bits w (modulo z (2 ^ w)))
bits_from_zero w size (pos n) e h = ap (λ (m : ℕ). map (λ (b : Bool). Const (flipped b false)) (low_bits w m)) e ∙ sym (positive_bits w n)
bits_from_zero w size (negsuc n) e h = cc

pub bits_below_zero : (w size : ℕ) (z : ℤ) → size ≡ nat_abs z → int_lt z (pos 0) ≡ true → map (λ (b : Bool). Const (flipped b true)) (low_bits w (size - 1)) ≡ map (λ (b : Bool). Const b) (low_bits w (modulo z (2 ^ w)))
bits_below_zero w size (pos n) e h = absurd (grind (arith, h))
bits_below_zero w size (negsuc n) e h = ap (λ (m : ℕ). map (λ (b : Bool). Const (flipped b true)) (low_bits w m)) (omega (arith, e)) ∙ sym (negative_bits w n)

-- an answer that is equal
pub ok_equal : {A E : Type 0} (result : Result A E) (a b : A) → a ≡ b → IfOk result (λ x. x ≡ a) → IfOk result (λ x. x ≡ b)
ok_equal (Ok x) a b e h = h ∙ e
ok_equal (Err x) a b e h = tt
