-- Why bytes are no text within a limit.
use Rattle.std.specs.Prelude.{ℕ, ◌+◌, nat_lt, nat_eq, Bool, List, [], ◌∷◌, Option, Some, None, is_none, if◌then◌else◌, length, take, drop}
use Rattle.std.specs.Str.{chars, is_utf8}
use Rattle.std.specs.Str.Lossy.{utf8_valid_len, utf8_error_len}
use Rattle.file_text.specs.declared.text.NoText.{NoText}
use Rattle.file_text.specs.declared.text.NoText.TheVariants.{Long, Utf8}

-- the line and the column behind characters
abbrev pub line_behind : ℕ → List ℕ → ℕ
line_behind line [] = line
line_behind line (c ∷ cs) = line_behind (if nat_eq c 10 then line + 1 else line) cs

abbrev pub col_behind : ℕ → List ℕ → ℕ
col_behind col [] = col
col_behind col (c ∷ cs) = col_behind (if nat_eq c 10 then 1 else col + 1) cs

-- bytes that are not UTF-8: the place behind the longest front that is
abbrev pub not_utf8 : List ℕ → NoText
not_utf8 bytes = Utf8 (line_behind 1 (chars (take (utf8_valid_len bytes) bytes))) (col_behind 1 (chars (take (utf8_valid_len bytes) bytes)))

-- whether bytes begin a UTF-8 text: they are one, or they end within a character
abbrev pub begins_text : List ℕ → Bool
begins_text bytes = is_none (utf8_error_len (drop (utf8_valid_len bytes) bytes))

-- of too many bytes, by the first of them, one more than the limit: that they begin no text, else their number
abbrev pub too_many : List ℕ → NoText
too_many front = if begins_text front then Long else not_utf8 front

-- why bytes are no text of at most so many, if they are none
abbrev pub no_text : ℕ → List ℕ → Option NoText
no_text limit bytes =
    if nat_lt limit (length bytes) then Some (too_many (take (limit + 1) bytes))
    else if is_utf8 bytes then None
    else Some (not_utf8 bytes)
