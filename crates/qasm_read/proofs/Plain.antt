-- Digits, by characters and by bytes.
use Rattle.std.proofs.Common.{◌≡◌, ℕ, suc, zero, ◌<◌, ◌^◌, Bool, true, false, not, List, [], ◌∷◌, length, get_or, chars, nat_eq, nat_lt, refl, sym, ◌∙◌, ap, arith}
use Rattle.std.specs.Prelude.{Some, None, Result, Ok, Err, ◌&&◌, ◌||◌, codes, bytes_eq, if◌then◌else◌}
use Rattle.std.specs.List.{list_all, starts_with}
use Rattle.std.specs.Result.{OkIff, result_ok}
use Rattle.std.specs.Str.{IsUtf8}
use Rattle.std.proofs.lemmas.Str.{chars-IsAscii}
use Rattle.std.proofs.lemmas.Bool.Decides.{nat_tests}
use Rattle.silq_lex.specs.Characters.{is_digit}
use Rattle.silq_lex.specs.Kinds.{number_of}
use Rattle.silq_lex.proofs.Texts.{and_left, and_right, digit_low, digits-chars}
use Rattle.qasm_read.specs.Lines.{is_plain, written_number}
use Rattle.qasm_read.specs.Written.{in_64_bits}

ascii : (bs : List ℕ) → list_all is_digit bs ≡ true → (i : ℕ) → get_or bs i 0 < 128
ascii [] h i = omega arith
ascii (b ∷ bs) h zero = digit_low b (and_left _ _ h)
ascii (b ∷ bs) h (suc i) = ascii bs (and_right _ _ h) i

not_plain : (ds : List ℕ) → list_all is_digit ds ≡ false → is_plain ds ≡ false
not_plain [] h = refl
not_plain (d ∷ ds) h = ap (λ (b : Bool). b && (bytes_eq (d ∷ ds) (codes "0") || not (starts_with nat_eq (d ∷ ds) (codes "0")))) h

pub plain-chars : (bs : List ℕ) → IsUtf8 bs → is_plain (chars bs) ≡ is_plain bs
plain-chars bs u = by_chars (list_all is_digit (chars bs)) refl
  where
    by_bytes : list_all is_digit (chars bs) ≡ false → (b : Bool) → list_all is_digit bs ≡ b → is_plain (chars bs) ≡ is_plain bs
    by_bytes e true f = ap is_plain (chars-IsAscii bs (ascii bs f))
    by_bytes e false f = not_plain (chars bs) e ∙ sym (not_plain bs f)

    by_chars : (b : Bool) → list_all is_digit (chars bs) ≡ b → is_plain (chars bs) ≡ is_plain bs
    by_chars true e = ap is_plain (digits-chars bs u e)
    by_chars false e = by_bytes e (list_all is_digit bs) refl

plain_digits : (ds : List ℕ) → is_plain ds ≡ true → (list_all is_digit ds ≡ true) × (0 < length ds)
plain_digits [] e = absurd (cc)
plain_digits (d ∷ ds) e = (and_left _ _ e, omega arith)

-- what std's parse gives for digits
parsed : {E : Type 0} (r : Result ℕ E) (n : ℕ) (ds : List ℕ) → 0 < length ds → OkIff r ((0 < length ds) × (n < 2 ^ 64)) n → result_ok r ≡ in_64_bits (Some n)
parsed (Ok z) n ds l h = by (nat_lt n (2 ^ 64)) refl
  where
    by : (b : Bool) → nat_lt n (2 ^ 64) ≡ b → Some z ≡ (if b then Some n else None)
    by true e = ap Some h.1
    by false e = let g : n < 2 ^ 64 = h.0.1 in absurd (grind (arith, nat_tests))
parsed (Err e) n ds l h = by (nat_lt n (2 ^ 64)) refl
  where
    by : (b : Bool) → nat_lt n (2 ^ 64) ≡ b → None ≡ (if b then Some n else None)
    by true k = let g : n < 2 ^ 64 = grind (arith, nat_tests) in absurd (h (l, g))
    by false k = refl

written_is : (cs : List ℕ) (b : Bool) → is_plain cs ≡ b → written_number cs ≡ (if b then Some (number_of cs) else None)
written_is cs b e = ap (λ (x : Bool). if x then Some (number_of cs) else None) e

pub no_number : (bs : List ℕ) → IsUtf8 bs → is_plain bs ≡ false → None ≡ in_64_bits (written_number (chars bs))
no_number bs u e = ap in_64_bits (sym (written_is (chars bs) false (plain-chars bs u ∙ e)))

pub number_read : {E : Type 0} (r : Result ℕ E) (bs : List ℕ) → IsUtf8 bs → is_plain bs ≡ true
    → (list_all is_digit bs ≡ true → OkIff r ((0 < length bs) × (number_of bs < 2 ^ 64)) (number_of bs)) → result_ok r ≡ in_64_bits (written_number (chars bs))
number_read r bs u e h =
    let d = plain_digits bs e in
    let same : chars bs ≡ bs = chars-IsAscii bs (ascii bs d.0) in
    parsed r (number_of bs) bs d.1 (h d.0) ∙ ap in_64_bits (sym (ap written_number same ∙ written_is bs true e))
