-- What the characters of a line stand for.
use Rattle.std.specs.Prelude.{ℕ, zero, suc, ◌^◌, nat_lt, List, [], ◌∷◌, ◌++◌, length, Bool, true, false, ◌&&◌, if◌then◌else◌, ◌==◌, Option, Some, None, option_map, unwrap_or, chars, encode_utf8_all}
use Rattle.std.specs.List.{list_any, before_first, after_first}
use Rattle.std.specs.Str.{all_ascii_digits}
use Rattle.std.specs.Str.Parse.{digits_value, without_leading_plus}

-- the character that a backslash before c stands for: `n` a line feed, `t` a tab, `r` a carriage return, else c itself
abbrev pub escaped : ℕ → ℕ
escaped c = if c == 110 then 10 else if c == 116 then 9 else if c == 114 then 13 else c

-- the characters that are spelled, where the first one stands behind a backslash or not
abbrev pub spelled : Bool → List ℕ → List ℕ
spelled behind [] = []
spelled true (c ∷ cs) = escaped c ∷ spelled false cs
spelled false (c ∷ cs) = if c == 92 then spelled true cs else c ∷ spelled false cs

-- the text that a text spells
abbrev pub spelled_text : List ℕ → List ℕ
spelled_text line = encode_utf8_all (spelled false (chars line))

-- so many times a list
abbrev pub times : ℕ → List ℕ → List ℕ
times zero all = []
times (suc n) all = times n all ++ all

-- the byte is a `*`
abbrev pub is_star : ℕ → Bool
is_star b = b == 42

-- the bytes are one decimal digit or more, and write a number below 2 ^ 32
abbrev pub is_count : List ℕ → Bool
is_count digits = nat_lt 0 (length digits) && all_ascii_digits digits && nat_lt (digits_value 10 digits) (2 ^ 32)

-- the number before the first `*` of a line and what stands behind that: where there is a `*`, and before it a number, in front of which a plus may stand
abbrev pub counted : List ℕ → Option (ℕ × List ℕ)
counted line = let digits = without_leading_plus (before_first is_star line) in
    if list_any is_star line && is_count digits then Some (digits_value 10 digits, after_first is_star line) else None

-- the text of a line: so many times what the rest spells, or else what the whole line spells
abbrev pub row_text : List ℕ → List ℕ
row_text line = unwrap_or (option_map (λ row. times row.0 (spelled_text row.1)) (counted line)) (spelled_text line)
