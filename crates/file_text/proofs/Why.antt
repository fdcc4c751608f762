-- Why bytes are no text.
use Rattle.std.proofs.Common.{◌≡◌, ℕ, ◌+◌, ◌<◌, ◌≤◌, Bool, true, false, nat_lt, List, [], take, drop, length, Option, Some, None, refl, ap, sym, ◌∙◌, arith}
use Rattle.std.proofs.lemmas.Bool.Decides.{nat_tests}
use Rattle.std.proofs.lemmas.Grind.{common_steps}
use Rattle.std.proofs.lemmas.Str.{IsUtf8-from_is_utf8, is_utf8-from_IsUtf8, utf8_valid_len-IsUtf8, utf8_valid_len-IsValidUpTo}
use Rattle.std.specs.Prelude.{if◌then◌else◌, is_none}
use Rattle.std.specs.Str.{chars, is_utf8, IsUtf8, IsValidUpTo}
use Rattle.std.specs.Str.Lossy.{utf8_valid_len, utf8_error_len}
use Rattle.file_text.specs.declared.text.NoText.{NoText}
use Rattle.file_text.specs.declared.text.NoText.TheVariants.{Long, Utf8}
use Rattle.file_text.specs.NoText.{begins_text, line_behind, col_behind, no_text as why, not_utf8, too_many}

-- the order of the tests
abbrev pub first_of : Bool → Bool → NoText → NoText → Option NoText
first_of long text cut other = if long then Some cut else if text then None else Some other

pub is_long : (limit n : ℕ) → limit < n → nat_lt limit n ≡ true
is_long limit n h = grind (arith, nat_tests)

is_short : (limit n : ℕ) → n ≤ limit → nat_lt limit n ≡ false
is_short limit n h = grind (arith, nat_tests)

is_no_text : (bytes : List ℕ) → ¬ (IsUtf8 bytes) → is_utf8 bytes ≡ false
is_no_text bytes h = by (is_utf8 bytes) refl
  where
    by : (b : Bool) → is_utf8 bytes ≡ b → b ≡ false
    by false e = refl
    by true e = absurd (h (IsUtf8-from_is_utf8 bytes e))

none_left : (bytes : List ℕ) → drop (length bytes) bytes ≡ []
none_left bytes = grind (arith, common_steps)

pub text_begins : (bytes : List ℕ) → IsUtf8 bytes → begins_text bytes ≡ true
unfolding utf8_error_len
text_begins bytes u = ap (λ n. is_none (utf8_error_len (drop n bytes))) (utf8_valid_len-IsUtf8 bytes u) ∙ ap (λ r. is_none (utf8_error_len r)) (none_left bytes)

-- all that is read of too many bytes
all_read : (n : ℕ) (bytes : List ℕ) → length bytes ≤ n → take n bytes ≡ bytes
all_read n bytes l = grind (arith, common_steps)

pub long_is : (limit : ℕ) (bytes : List ℕ) → limit < length bytes → length bytes ≤ limit + 1 → why limit bytes ≡ Some (too_many bytes)
long_is limit bytes l most =
    ap (λ b. first_of b (is_utf8 bytes) (too_many (take (limit + 1) bytes)) (not_utf8 bytes)) (is_long limit (length bytes) l)
    ∙ ap (λ f. Some (too_many f)) (all_read (limit + 1) bytes most)

-- too many bytes, the first of which begin a text
pub long : (limit : ℕ) (bytes : List ℕ) → limit < length bytes → length bytes ≤ limit + 1 → begins_text bytes ≡ true → why limit bytes ≡ Some Long
long limit bytes l most b = long_is limit bytes l most ∙ ap (λ t. Some (if t then Long else not_utf8 bytes)) b

-- bytes that are no text, however many
utf8_is : (limit : ℕ) (bytes : List ℕ) → length bytes ≤ limit + 1 → ¬ (IsUtf8 bytes) → (limit < length bytes → begins_text bytes ≡ false)
    → why limit bytes ≡ Some (not_utf8 bytes)
utf8_is limit bytes most u b = by (nat_lt limit (length bytes)) refl
  where
    by : (t : Bool) → nat_lt limit (length bytes) ≡ t → why limit bytes ≡ Some (not_utf8 bytes)
    by true t =
        let l : limit < length bytes = grind (arith, nat_tests) in
        long_is limit bytes l most ∙ ap (λ c. Some (if c then Long else not_utf8 bytes)) (b l)
    by false t =
        ap (λ c. first_of c (is_utf8 bytes) (too_many (take (limit + 1) bytes)) (not_utf8 bytes)) t
        ∙ ap (λ c. first_of false c (too_many (take (limit + 1) bytes)) (not_utf8 bytes)) (is_no_text bytes u)

-- bytes that are no text, by the front that is one
pub no_text : (limit : ℕ) (bytes front : List ℕ) (n : ℕ) → length bytes ≤ limit + 1 → ¬ (IsUtf8 bytes)
    → (limit < length bytes → begins_text bytes ≡ false) → IsValidUpTo bytes n → front ≡ take n bytes
    → why limit bytes ≡ Some (Utf8 (line_behind 1 (chars front)) (col_behind 1 (chars front)))
no_text limit bytes front n most u b e f =
    let is_front : front ≡ take (utf8_valid_len bytes) bytes = f ∙ ap (λ k. take k bytes) (sym (utf8_valid_len-IsValidUpTo bytes n e)) in
    utf8_is limit bytes most u b ∙ ap (λ cs. Some (Utf8 (line_behind 1 (chars cs)) (col_behind 1 (chars cs)))) (sym is_front)

-- a text
pub fine : (limit : ℕ) (bytes : List ℕ) → length bytes ≤ limit → is_utf8 bytes ≡ true → why limit bytes ≡ None
fine limit bytes l u =
    ap (λ b. first_of b (is_utf8 bytes) (too_many (take (limit + 1) bytes)) (not_utf8 bytes)) (is_short limit (length bytes) l)
    ∙ ap (λ b. first_of false b (too_many (take (limit + 1) bytes)) (not_utf8 bytes)) u
