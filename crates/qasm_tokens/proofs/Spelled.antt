-- Texts by their characters and by their bytes.
use Rattle.std.proofs.Common.{◌≡◌, ℕ, ◌<◌, ◌^◌, Bool, true, false, cond, List, [], ◌∷◌, map, length, nat_lt, refl, sym, ◌∙◌, ap, arith}
use Rattle.std.specs.Prelude.{Option, Some, Result, Ok, Err, is_ok, find, option_map}
use Rattle.std.specs.List.{list_all}
use Rattle.std.specs.Result.{OkIff}
use Rattle.std.specs.Str.{chars, bytes_eq, IsUtf8, encode_utf8_all, all_scalars}
use Rattle.std.proofs.lemmas.Str.{chars-encodes, encodes-chars}
use Rattle.std.proofs.lemmas.Bool.Decides.{same_from_decides, Decides-like, nat_tests}
use Rattle.std.proofs.lemmas.Slice.Eq.{bytes_eq-Decides}
use Rattle.silq_lex.proofs.Texts.{and_left, and_right}
use Rattle.qasm_tokens.specs.declared.kind.Kind.{Kind}
use Rattle.qasm_tokens.specs.Spelling.{found}

-- a text is compared by its characters or by its bytes
pub bytes_eq-chars : (w bs : List ℕ) → IsUtf8 bs → all_scalars w ≡ true → bytes_eq w (chars bs) ≡ bytes_eq (encode_utf8_all w) bs
bytes_eq-chars w bs u s =
    same_from_decides _ _ (bytes_eq-Decides w (chars bs))
    (Decides-like _ (λ e. sym (chars-encodes w s) ∙ ap chars e) (λ e. ap encode_utf8_all e ∙ encodes-chars bs u) (bytes_eq-Decides (encode_utf8_all w) bs))

pub chars-bytes_eq : (w bs : List ℕ) → IsUtf8 bs → all_scalars w ≡ true → bytes_eq (chars bs) w ≡ bytes_eq bs (encode_utf8_all w)
chars-bytes_eq w bs u s =
    same_from_decides _ _ (bytes_eq-Decides (chars bs) w)
    (Decides-like _ (λ e. ap chars e ∙ chars-encodes w s) (λ e. sym (encodes-chars bs u) ∙ ap encode_utf8_all e) (bytes_eq-Decides bs (encode_utf8_all w)))

abbrev pub in_bytes : List ℕ × Kind → List ℕ × Kind
in_bytes w = (encode_utf8_all w.0, w.1)

pub found_is : (ws : List (List ℕ × Kind)) (bs : List ℕ) → IsUtf8 bs → list_all (λ w. all_scalars w.0) ws ≡ true
    → found (map in_bytes ws) bs ≡ option_map (λ w. w.1) (find (λ w. bytes_eq w.0 (chars bs)) ws)
found_is [] bs u s = refl
found_is (w ∷ ws) bs u s =
    step (bytes_eq w.0 (chars bs)) (bytes_eq (encode_utf8_all w.0) bs) (found (map in_bytes ws) bs) (find (λ w. bytes_eq w.0 (chars bs)) ws)
    (bytes_eq-chars w.0 bs u (and_left _ _ s)) (found_is ws bs u (and_right _ _ s))
  where
    step : (b d : Bool) (x : Option Kind) (y : Option (List ℕ × Kind)) → b ≡ d → x ≡ option_map (λ w. w.1) y
        → cond d (Some w.1) x ≡ option_map (λ w. w.1) (cond b (Some w) y)
    step true true x y e f = refl
    step true false x y e f = cc
    step false true x y e f = cc
    step false false x y e f = f

-- what std's parse tells of digits
pub number_fits : {E : Type 0} (r : Result ℕ E) (n : ℕ) (ds : List ℕ) → 0 < length ds → OkIff r ((0 < length ds) × (n < 2 ^ 32)) n → is_ok r ≡ nat_lt n (2 ^ 32)
number_fits (Ok z) n ds l h = let g : n < 2 ^ 32 = h.0.1 in grind (arith, nat_tests)
number_fits (Err e) n ds l h = of (nat_lt n (2 ^ 32)) refl
  where
    of : (b : Bool) → nat_lt n (2 ^ 32) ≡ b → false ≡ b
    of true k = let g : n < 2 ^ 32 = grind (arith, nat_tests) in absurd (h (l, g))
    of false k = refl

pub number_parsed : {E : Type 0} (r : Result ℕ E) (n : ℕ) (ds : List ℕ) → 0 < length ds → n < 2 ^ 32 → OkIff r ((0 < length ds) × (n < 2 ^ 32)) n → r ≡ Ok n
number_parsed (Ok z) n ds l h p = ap Ok p.1
number_parsed (Err e) n ds l h p = absurd (p (l, h))
