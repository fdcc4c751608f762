-- Which rows of characters are tokens, and of which kind.
use Rattle.std.specs.Prelude.{ℕ, ◌+◌, ◌-◌, ◌*◌, Bool, false, ◌&&◌, List, [], ◌∷◌, Option, Some, None, if◌then◌else◌, codes}
use Rattle.std.specs.List.{list_any, list_all}
use Rattle.std.specs.Str.{bytes_eq}
use Rattle.silq_lex.specs.Characters.{is_digit, starts_name, continues_name}
use Rattle.silq_lex.specs.declared.token.TokenKind.{TokenKind}
use Rattle.silq_lex.specs.declared.token.TokenKind.TheVariants.{Name, Word, Number, Sign}

-- the reserved words; the last three are second spellings of B, N and pi
abbrev pub reserved : List (List ℕ)
reserved =
    codes "def" ∷ codes "return" ∷ codes "if" ∷ codes "else" ∷ codes "for" ∷ codes "in" ∷ codes "forget" ∷ codes "phase"
    ∷ codes "const" ∷ codes "qfree" ∷ codes "mfree" ∷ codes "lifted" ∷ codes "true" ∷ codes "false" ∷ codes "pi" ∷ codes "B"
    ∷ codes "N" ∷ codes "uint" ∷ codes "int" ∷ (0x1D539 ∷ []) ∷ (0x2115 ∷ []) ∷ (0x3C0 ∷ []) ∷ []

-- the signs; the last two are × and the second spelling · of *
abbrev pub signs : List (List ℕ)
signs =
    codes ":=" ∷ codes "+=" ∷ codes "-=" ∷ codes "^=" ∷ codes "==" ∷ codes "!=" ∷ codes "<=" ∷ codes ">=" ∷ codes "&&" ∷ codes "||"
    ∷ codes ".." ∷ codes "(" ∷ codes ")" ∷ codes "[" ∷ codes "]" ∷ codes "{" ∷ codes "}" ∷ codes "," ∷ codes ";" ∷ codes ":"
    ∷ codes "=" ∷ codes "<" ∷ codes ">" ∷ codes "!" ∷ codes "+" ∷ codes "-" ∷ codes "*" ∷ codes "/" ∷ codes "^"
    ∷ (0xD7 ∷ []) ∷ (0xB7 ∷ []) ∷ []

abbrev pub is_one_of : List (List ℕ) → List ℕ → Bool
is_one_of texts text = list_any (λ t. bytes_eq t text) texts

abbrev pub is_name : List ℕ → Bool
is_name [] = false
is_name (c ∷ cs) = starts_name c && list_all continues_name cs

abbrev pub is_number : List ℕ → Bool
is_number [] = false
is_number (c ∷ cs) = is_digit c && list_all is_digit cs

-- the kind of a token; None where the characters are none
abbrev pub kind_of : List ℕ → Option TokenKind
kind_of text =
    if is_name text then (if is_one_of reserved text then Some Word else Some Name)
    else if is_number text then Some Number
    else if is_one_of signs text then Some Sign
    else None

-- the number that digits spell, after those that spell n
abbrev pub number_after : ℕ → List ℕ → ℕ
number_after n [] = n
number_after n (d ∷ ds) = number_after (n * 10 + (d - 48)) ds

abbrev pub number_of : List ℕ → ℕ
number_of ds = number_after 0 ds
