-- The tokens of a text.
use Rattle.std.specs.Prelude.{◌≡◌, ℕ, zero, suc, ◌+◌, Bool, not, nat_eq, nat_le, ◌==◌, List, [], ◌∷◌, ◌++◌, Option, Some, None, if◌then◌else◌, codes, drop, length, option_map, is_some, take_while, encode_utf8, encode_utf8_all}
use Rattle.std.specs.List.{starts_with}
use Rattle.silq_lex.specs.Characters.{is_blank}
use Rattle.silq_lex.specs.Kinds.{kind_of, number_of}
use Rattle.silq_lex.specs.Longest.{longest}
use Rattle.silq_lex.specs.declared.token.TokenKind.{TokenKind}
use Rattle.silq_lex.specs.declared.token.TokenKind.TheVariants.{Name, Word, Number, Sign}
use Rattle.silq_lex.specs.declared.token.Token.{Token}
use Rattle.silq_lex.specs.declared.token.Place.{Place}
use Rattle.silq_lex.specs.declared.token.LexCause.{LexCause}
use Rattle.silq_lex.specs.declared.token.LexCause.TheVariants as causes
use Rattle.silq_lex.specs.declared.token.LexFault.{LexFault}

-- a token with the place of its first character
pub record Located : Type 0 where
  pub kind : TokenKind
  -- its bytes
  pub text : List ℕ
  pub at : Place

-- what a token of the program is here
abbrev pub located_of : Token → Located
located_of t = record { kind = t.kind; text = t.text.now; at = record { start = t.start; line = t.line; col = t.col } }

-- how the tokens of a text end: at the place behind its last character, or at a fault
pub data Ending : Type 0 where
  End : Place → Ending
  Fault : LexFault → Ending

pub record Tokens : Type 0 where
  pub items : List Located
  pub ending : Ending

-- what stands at the front of characters
pub data Front : Type 0 where
  -- a blank or a comment
  gap : List ℕ → Front
  token : TokenKind → List ℕ → Front
  fault : LexCause → Front

-- the characters through the next */
abbrev pub through_close : List ℕ → Option (List ℕ)
through_close [] = None
through_close (c ∷ cs) =
    if starts_with nat_eq (c ∷ cs) (codes "*/") then Some (codes "*/") else option_map (λ more. c ∷ more) (through_close cs)

-- a comment that begins with /*
abbrev pub closed : Option (List ℕ) → Front
closed None = fault causes.Comment
closed (Some more) = gap (codes "/*" ++ more)

-- a number is at most 9223372036854775807
abbrev pub kinded : Option TokenKind → List ℕ → Front
kinded None text = fault causes.Character
kinded (Some Name) text = token Name text
kinded (Some Word) text = token Word text
kinded (Some Number) text = if nat_le (number_of text) 9223372036854775807 then token Number text else fault causes.Number
kinded (Some Sign) text = token Sign text

abbrev pub is_token : List ℕ → Bool
is_token text = is_some (kind_of text)

abbrev pub token_or_fault : Option (List ℕ) → Front
token_or_fault None = fault causes.Character
token_or_fault (Some text) = kinded (kind_of text) text

-- what stands at the front of the character c with the characters cs behind it
abbrev pub front_of : ℕ → List ℕ → Front
front_of c cs =
    if starts_with nat_eq (c ∷ cs) (codes "//") then gap (c ∷ take_while (λ d. not (d == 10)) cs)
    else if starts_with nat_eq (c ∷ cs) (codes "/*") then closed (through_close (drop 1 cs))
    else if is_blank c then gap (c ∷ [])
    else token_or_fault (longest is_token (c ∷ cs))

-- the place behind a character
abbrev pub behind : Place → ℕ → Place
behind at c = record {
  start = at.start + length (encode_utf8 c);
  line = if c == 10 then at.line + 1 else at.line;
  col = if c == 10 then 1 else at.col + 1;
}

-- the place behind characters
abbrev pub behind_all : Place → List ℕ → Place
behind_all at [] = at
behind_all at (c ∷ cs) = behind_all (behind at c) cs

abbrev pub with_first : Located → Tokens → Tokens
with_first t ts = record { items = t ∷ ts.items; ending = ts.ending }

abbrev pub ends : Ending → Tokens
ends ending = record { items = []; ending = ending }

abbrev pub located : TokenKind → List ℕ → Place → Located
located kind text at = record { kind = kind; text = encode_utf8_all text; at = at }

abbrev pub fault_at : Place → LexCause → LexFault
fault_at at cause = record { line = at.line; col = at.col; cause = cause }

-- the tokens from a place on, with what stands there, and those behind it
abbrev pub put_in_front : Front → Place → (List ℕ → Tokens) → Tokens
put_in_front (gap text) at others = others text
put_in_front (token kind text) at others = with_first (located kind text at) (others text)
put_in_front (fault cause) at others = ends (Fault (fault_at at cause))

-- the tokens of characters of which the first has this place; n is at least their number
unfoldable pub tokens_within : ℕ → Place → List ℕ → Tokens
tokens_within n at [] = ends (End at)
tokens_within zero at (c ∷ cs) = ends (End at)
tokens_within (suc n) at (c ∷ cs) =
    put_in_front (front_of c cs) at (λ text. tokens_within n (behind_all at text) (drop (length text) (c ∷ cs)))

-- the tokens of characters of which the first has this place
unfoldable pub tokens_from : Place → List ℕ → Tokens
tokens_from at cs = tokens_within (length cs) at cs

-- the tokens of a text
unfoldable pub tokens_of : List ℕ → Tokens
tokens_of cs = tokens_from (record { start = 0; line = 1; col = 1 }) cs

-- no token is left, and no fault
abbrev pub IsAtEnd : Tokens → Type 0
IsAtEnd tokens = (place : Place) × (tokens ≡ ends (End place))
