-- The lines that a heading begins.
use Rattle.std.proofs.Common.{◌≡◌, ℕ, zero, suc, ◌<◌, ◌≤◌, ◌^◌, Bool, true, false, List, [], ◌∷◌, length, get_or, chars, nat_lt, refl, sym, ◌∙◌, ap, arith}
use Rattle.std.specs.Prelude.{Some, None, ◌==◌, ◌&&◌, bytes_eq, if◌then◌else◌}
use Rattle.std.specs.List.{list_all}
use Rattle.std.specs.Str.{IsUtf8, encode_utf8_all}
use Rattle.std.proofs.lemmas.Str.{chars-IsAscii, encodes-chars}
use Rattle.std.proofs.lemmas.Bool.Decides.{same_from_decides, Decides-like, nat_tests}
use Rattle.std.proofs.lemmas.Slice.Eq.{bytes_eq-Decides}
use denote.Bor.{Bor}
use Rattle.silq_lex.specs.Kinds.{number_of}
use Rattle.silq_lex.proofs.Texts.{and_left, and_right}
use Rattle.qasm_read.specs.Lines.{is_plain, written_number, is_written}
use Rattle.qasm_read.specs.Written.{in_64_bits, is_marked, is_numbered, is_headed, texts_of}

ascii : (bs : List ℕ) → list_all (λ c. nat_lt c 128) bs ≡ true → (i : ℕ) → get_or bs i 0 < 128
ascii [] h i = omega arith
ascii (b ∷ bs) h zero = let f : nat_lt b 128 ≡ true = and_left _ _ h in grind (arith, nat_tests)
ascii (b ∷ bs) h (suc i) = ascii bs (and_right _ _ h) i

-- a text is compared with a word of ASCII by its bytes or by its characters
pub word_is : (text word : List ℕ) → IsUtf8 text → IsUtf8 word → list_all (λ c. nat_lt c 128) word ≡ true → bytes_eq text word ≡ bytes_eq (chars text) word
word_is text word u v a =
    let same : chars word ≡ word = chars-IsAscii word (ascii word a) in
    same_from_decides _ _ (bytes_eq-Decides text word)
    (Decides-like _ (λ e. sym (encodes-chars text u) ∙ (ap encode_utf8_all (e ∙ sym same) ∙ encodes-chars word v)) (λ e. ap chars e ∙ same)
    (bytes_eq-Decides (chars text) word))

pub written_some : (cs : List ℕ) (n m : ℕ) → n < 2 ^ 64 → Some m ≡ in_64_bits (written_number cs) → (m == n) ≡ is_written cs n
written_some cs n m l h = by (is_plain cs) h
  where
    small : (t : Bool) → Some m ≡ (if t then Some (number_of cs) else None) → (m == n) ≡ (number_of cs == n)
    small true e = let f : m ≡ number_of cs = cc in ap (λ (x : ℕ). x == n) f
    small false e = absurd (cc)

    by : (b : Bool) → Some m ≡ in_64_bits (if b then Some (number_of cs) else None) → (m == n) ≡ (b && number_of cs == n)
    by true e = small (nat_lt (number_of cs) (2 ^ 64)) e
    by false e = absurd (cc)

pub written_none : (cs : List ℕ) (n : ℕ) → n < 2 ^ 64 → None ≡ in_64_bits (written_number cs) → false ≡ is_written cs n
written_none cs n l h = by (is_plain cs) h
  where
    apart : (x : ℕ) → nat_lt x (2 ^ 64) ≡ false → false ≡ (x == n)
    apart x f = grind (arith, nat_tests)

    great : (t : Bool) → nat_lt (number_of cs) (2 ^ 64) ≡ t → None ≡ (if t then Some (number_of cs) else None) → false ≡ (number_of cs == n)
    great true f e = absurd (cc)
    great false f e = apart (number_of cs) f

    by : (b : Bool) → None ≡ in_64_bits (if b then Some (number_of cs) else None) → false ≡ (b && number_of cs == n)
    by true e = great (nat_lt (number_of cs) (2 ^ 64)) refl e
    by false e = refl

pub both_true : (a b r s : Bool) → r ≡ a → r ≡ true → s ≡ b → s ≡ (a && b)
both_true true b r s e t f = f
both_true false b r s e t f = absurd (cc)

pub headed_long : (kind : List ℕ) (n : ℕ) (words : List (Bor (List ℕ))) (w x y z : Bor (List ℕ)) → 5 ≤ length words
    → (is_marked (chars (get_or words 0 w).now) (chars (get_or words 1 x).now)
    && is_numbered kind n (chars (get_or words 2 y).now) (chars (get_or words 3 z).now))
    ≡ is_headed kind n (texts_of words)
headed_long kind n (a ∷ b ∷ c ∷ d ∷ e ∷ words) w x y z l = refl
headed_long kind n [] w x y z l = absurd (omega arith)
headed_long kind n (a ∷ []) w x y z l = absurd (omega arith)
headed_long kind n (a ∷ b ∷ []) w x y z l = absurd (omega arith)
headed_long kind n (a ∷ b ∷ c ∷ []) w x y z l = absurd (omega arith)
headed_long kind n (a ∷ b ∷ c ∷ d ∷ []) w x y z l = absurd (omega arith)
