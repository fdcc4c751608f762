-- What the definition says of bits, of lengths and of the number 7.
use Rattle.std.proofs.Common.{◌≡◌, ◌≢◌, ℕ, zero, suc, ◌+◌, ◌*◌, ◌/◌, ◌%◌, ◌<◌, ◌≤◌, Bool, true, false, length, refl, sym, arith, lit<, lit≤}
use Rattle.std.specs.Prelude.{◌==◌, decimal}
use Rattle.std.specs.Fmt.{digits}
use Rattle.std.proofs.lemmas.Bool.{eqb-false}
use Rattle.std.proofs.lemmas.Nat.{mod_below}
use Rattle.std.proofs.lemmas.List.{length-append}
use Rattle.std.proofs.lemmas.Fmt.{length-decimal-le}
use Rattle.silq_gen.specs.Generated.{first_bit, second_bit, flip_line, phase_line, controlled_line, line_text, lines_text, value_at, kind}
use Rattle.silq_gen.specs.Laws.{BitsDiffer, ProgramsAreShort, SevenIsAsTold}

pub told_seven : SevenIsAsTold
unfolding digits
told_seven = (refl, refl, refl, refl, refl)

-- the bit behind one of eight is another
next_differs : (p : ℕ) → p < 8 → p ≢ (p + 1) % 8
next_differs p low same = omega (arith, low, same)

pub differ : BitsDiffer
differ v = go ((v / 8) % 8 == first_bit v) refl
  where
    p : first_bit v < 8
    p = mod_below v 8 (lit< tt)

    go : (b : Bool) → ((v / 8) % 8 == first_bit v) ≡ b → (first_bit v < 8) × (second_bit v < 8) × (first_bit v ≢ second_bit v)
    go true e = rw e (p, mod_below (first_bit v + 1) 8 (lit< tt), next_differs (first_bit v) p)
    go false e = rw e (p, mod_below (v / 8) 8 (lit< tt), λ same. eqb-false _ _ e (sym same))

-- a number of at most five digits
five_digits : (n : ℕ) → n < 100000 → length (decimal n) ≤ 5
five_digits n low = length-decimal-le 5 n (lit< tt) low (omega (arith, low))

flip_short : (i p q : ℕ) → i < 100000 → p < 8 → q < 8 → length (flip_line i p q) ≤ 60
flip_short i p q li lp lq =
    let a = five_digits i li in
    let b = five_digits p (omega (arith, lp)) in
    let c = five_digits q (omega (arith, lq)) in
    simp length-append (omega (arith, a, b, c))

phase_short : (p : ℕ) → p < 8 → length (phase_line p) ≤ 60
phase_short p lp = let a = five_digits p (omega (arith, lp)) in simp length-append (omega (arith, a))

controlled_short : (p : ℕ) → p < 8 → length (controlled_line p) ≤ 60
controlled_short p lp = let a = five_digits p (omega (arith, lp)) in simp length-append (omega (arith, a))

line_short : (i v : ℕ) → i < 100000 → length (line_text i v) ≤ 60
line_short i v low = first (kind v == 0) refl
  where
    p : first_bit v < 8
    p = mod_below v 8 (lit< tt)

    third : (b : Bool) → (kind v == 0) ≡ false → (kind v == 1) ≡ false → (kind v == 2) ≡ b → length (line_text i v) ≤ 60
    third true e f g = rw (e, f, g) (phase_short (first_bit v) p)
    third false e f g = rw (e, f, g) (controlled_short (first_bit v) p)

    second : (b : Bool) → (kind v == 0) ≡ false → (kind v == 1) ≡ b → length (line_text i v) ≤ 60
    second true e f = rw (e, f) (flip_short i (first_bit v) (second_bit v) low p (differ v).1)
    second false e f = third (kind v == 2) e f refl

    first : (b : Bool) → (kind v == 0) ≡ b → length (line_text i v) ≤ 60
    first true e = rw e (lit≤ tt)
    first false e = second (kind v == 1) e refl

lines_short : (number n : ℕ) → n ≤ 10000 → length (lines_text number n) ≤ 60 * n
lines_short number zero low = lit≤ tt
lines_short number (suc n) low =
    let before = lines_short number n (omega (arith, low)) in
    let one = line_short n (value_at number (suc n)) (omega (arith, low)) in
    simp length-append (omega (arith, before, one))

pub short : ProgramsAreShort
short number size low =
    let lines = lines_short number size low in
    simp length-append (omega (arith, lines, low))
