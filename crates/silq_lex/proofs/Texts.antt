-- Characters and bytes of texts.
use Rattle.std.proofs.Common.{◌≡◌, ℕ, ◌<◌, ◌≤◌, Bool, true, false, ◌||◌, ◌&&◌, List, [], ◌∷◌, ◌++◌, map, nat_le, refl, sym, ◌∙◌, ap, arith, rules}
use Rattle.std.specs.List.{list_all}
use Rattle.std.specs.Prelude.{Some, None, if◌then◌else◌, Result, Ok, Err, ℤ, pos, is_ok, ◌^◌, length}
use Rattle.std.specs.Result.{OkIff}
use Rattle.std.specs.Str.{chars, bytes_eq, IsUtf8, encode_utf8_all, all_scalars}
use Rattle.std.proofs.lemmas.Str.{chars-encodes, encodes-chars, encodes-append, encode_ascii}
use Rattle.std.proofs.lemmas.Str.Parse.{IsNumeralModel, numerals_by_fold}
use Rattle.std.proofs.lemmas.Bool.{leb-true, le-leb}
use Rattle.std.proofs.lemmas.Bool.Decides.{same_from_decides, Decides-like}
use Rattle.std.proofs.lemmas.Slice.Eq.{bytes_eq-Decides}
use Rattle.silq_lex.specs.Kinds.{is_one_of, is_number, kind_of, reserved, signs, is_name, number_of, number_after}
use Rattle.silq_lex.specs.declared.token.TokenKind.TheVariants.{Name, Word, Number, Sign}
use Rattle.silq_lex.specs.Characters.{is_digit}

pub and_left : (a b : Bool) → (a && b) ≡ true → a ≡ true
and_left true b e = refl
and_left false b e = e

pub and_true : (a b : Bool) → a ≡ true → b ≡ true → (a && b) ≡ true
and_true a b e f = cc

pub and_right : (a b : Bool) → (a && b) ≡ true → b ≡ true
and_right true b e = e
and_right false b e = cc

-- a text is compared by its characters or by its bytes
bytes_eq-chars : (w bs : List ℕ) → IsUtf8 bs → all_scalars w ≡ true → bytes_eq w (chars bs) ≡ bytes_eq (encode_utf8_all w) bs
bytes_eq-chars w bs u s =
    same_from_decides _ _ (bytes_eq-Decides w (chars bs))
    (Decides-like _ (λ e. sym (chars-encodes w s) ∙ ap chars e) (λ e. ap encode_utf8_all e ∙ encodes-chars bs u) (bytes_eq-Decides (encode_utf8_all w) bs))

or_same : (a b c d : Bool) → a ≡ b → c ≡ d → (a || c) ≡ (b || d)
or_same a b c d e f = cc

pub is_one_of-chars : (ws : List (List ℕ)) (bs : List ℕ) → IsUtf8 bs → list_all all_scalars ws ≡ true → is_one_of ws (chars bs) ≡ is_one_of (map encode_utf8_all ws) bs
is_one_of-chars [] bs u s = refl
is_one_of-chars (w ∷ ws) bs u s =
    or_same (bytes_eq w (chars bs)) (bytes_eq (encode_utf8_all w) bs) (is_one_of ws (chars bs)) (is_one_of (map encode_utf8_all ws) bs)
    (bytes_eq-chars w bs u (and_left _ _ s)) (is_one_of-chars ws bs u (and_right _ _ s))

-- a text is cut where its characters are
pub seam : (text rest front : List ℕ) → IsUtf8 text → IsUtf8 rest → chars text ≡ front ++ chars rest → text ≡ encode_utf8_all front ++ rest
seam text rest front u v e =
    sym (encodes-chars text u) ∙ ap encode_utf8_all e ∙ encodes-append front (chars rest) ∙ ap (λ z. encode_utf8_all front ++ z) (encodes-chars rest v)

pub digit_low : (d : ℕ) → is_digit d ≡ true → d < 128
digit_low d e = let k : d ≤ 57 = leb-true d 57 (and_right (nat_le 48 d) (nat_le d 57) e) in omega arith

-- digits are their own bytes
pub digits_encode : (ds : List ℕ) → list_all is_digit ds ≡ true → encode_utf8_all ds ≡ ds
digits_encode [] h = refl
digits_encode (d ∷ ds) h =
    let low : d < 128 = digit_low d (and_left _ _ h) in
    ap (λ z. z ++ encode_utf8_all ds) (encode_ascii d low) ∙ ap (λ z. d ∷ z) (digits_encode ds (and_right _ _ h))

pub digits-chars : (bs : List ℕ) → IsUtf8 bs → list_all is_digit (chars bs) ≡ true → chars bs ≡ bs
digits-chars bs u h = sym (digits_encode (chars bs) h) ∙ encodes-chars bs u

-- a row of digits, as std reads it
abbrev AreDigits : List ℕ → Type 0
AreDigits ds = list_all is_digit ds ≡ true

pub digits_model : IsNumeralModel AreDigits number_of
digits_model = numerals_by_fold AreDigits (search rules) number_after (search rules)

-- what std's parse tells of digits
pub number_fits : {E : Type 0} (r : Result ℤ E) (n : ℕ) (ds : List ℕ) → 0 < length ds → OkIff r ((0 < length ds) × (n < 2 ^ 63)) (pos n) → is_ok r ≡ nat_le n 9223372036854775807
number_fits (Ok z) n ds l h = sym (le-leb n 9223372036854775807 (omega (arith, h.0.1)))
number_fits (Err e) n ds l h = of (nat_le n 9223372036854775807) refl
  where
    of : (b : Bool) → nat_le n 9223372036854775807 ≡ b → false ≡ b
    of true k = absurd (h (l, omega (arith, leb-true n 9223372036854775807 k)))
    of false k = refl

pub number_digits : (cs : List ℕ) → is_number cs ≡ true → (list_all is_digit cs ≡ true) × (0 < length cs)
number_digits [] e = cc
number_digits (c ∷ cs) e = (e, omega arith)

pub scalars_front : (xs ys : List ℕ) → all_scalars (xs ++ ys) ≡ true → all_scalars xs ≡ true
scalars_front [] ys e = refl
scalars_front (x ∷ xs) ys e = and_true _ _ (and_left _ _ e) (scalars_front xs ys (and_right _ _ e))

pub number_kind : (text : List ℕ) → kind_of text ≡ Some Number → is_number text ≡ true
number_kind text e = of (is_name text) (is_one_of reserved text) (is_number text) (is_one_of signs text) refl e
  where
    of : (a b c d : Bool) → is_number text ≡ c → (if a then (if b then Some Word else Some Name) else if c then Some Number else if d then Some Sign else None) ≡ Some Number → is_number text ≡ true
    of true true c d h e = cc
    of true false c d h e = cc
    of false b true d h e = h
    of false b false true h e = cc
    of false b false false h e = cc

-- what std's parse gives for digits
pub number_parsed : {E : Type 0} (r : Result ℤ E) (n : ℕ) (ds : List ℕ) → 0 < length ds → n < 2 ^ 63 → OkIff r ((0 < length ds) × (n < 2 ^ 63)) (pos n) → r ≡ Ok (pos n)
number_parsed (Ok z) n ds l h p = ap Ok p.1
number_parsed (Err e) n ds l h p = absurd (p (l, h))
