-- What a cursor has before it, and what it has passed.
use Rattle.std.specs.Prelude.{◌≡◌, ℕ, ◌<◌, List, [], ◌∷◌, ◌++◌, Option, Some, None, length, nat_eq, true, false, ◌^◌}
use Rattle.std.specs.List.{starts_with}
use Rattle.silq_lex.specs.Runs.{run}
use Rattle.std.specs.Str.{chars}
use Rattle.silq_lex.specs.declared.token.Place.{Place}
use Rattle.silq_lex.specs.Tokens.{behind_all}
use Rattle.qasm_tokens.specs.declared.token.Token.{Token}
use Rattle.qasm_tokens.specs.declared.token.Mark.{Mark}
use Rattle.qasm_tokens.specs.declared.token.Mark.TheVariants as marks
use Rattle.qasm_tokens.specs.declared.cursor.Cursor.{Cursor}
use Rattle.qasm_tokens.specs.declared.kind.Kind.{Kind}
use Rattle.qasm_tokens.specs.declared.kind.Kind.TheVariants as k
use Rattle.silq_lex.specs.Kinds.{is_number, number_of}
use Rattle.qasm_tokens.specs.Words.{Piece, piece, word_kind, number_kind, digits_at, goes_on}
use Rattle.qasm_tokens.specs.Tokens as tokens
use Rattle.qasm_tokens.specs.Tokens.{front_text, mark_at, marks_from}

-- what a token of the program is here
abbrev pub token_of : Token → tokens.Token
token_of t = record { kind = t.kind; text = chars t.text.now; at = t.at }

abbrev pub mark_of : Mark → tokens.Mark
mark_of (marks.Token t) = tokens.token (token_of t)
mark_of (marks.Line text) = tokens.line (chars text.now)

abbrev pub mark_list : Option Mark → List tokens.Mark
mark_list None = []
mark_list (Some m) = mark_of m ∷ []

-- the characters from a cursor on, their marks, and the place of their end
abbrev pub ahead : Cursor → List ℕ
ahead cursor = chars cursor.rest.now

abbrev pub upcoming : Cursor → List tokens.Mark
upcoming cursor = marks_from cursor.place (ahead cursor)

abbrev pub end_place : Cursor → Place
end_place cursor = behind_all cursor.place (ahead cursor)

-- between two cursors stand these characters
pub record Passes (from to : Cursor) (text : List ℕ) : Type 0 where
  pub characters : ahead from ≡ text ++ ahead to
  pub place : to.place ≡ behind_all from.place text

-- a word, and a number, by the first character and those behind it
abbrev pub word_at : ℕ → List ℕ → Piece
word_at c cs = piece (word_kind c (c ∷ run goes_on cs)) (c ∷ run goes_on cs)

abbrev pub number_at : ℕ → List ℕ → Piece
number_at c cs = piece (number_kind (digits_at c cs)) (digits_at c cs)

-- this piece was passed, and its kind told
pub record ReadsPiece (from : Cursor) (read : Kind × Cursor) (p : Piece) : Type 0 where
  pub kind : read.0 ≡ p.kind
  pub passes : Passes from read.1 p.text

-- the second character of a sign was passed, or does not stand there
abbrev pub ReadsSecond : Option (ℕ × Kind) → Cursor → Option (Kind × Cursor) → Type 0
ReadsSecond None from None = Unit {0}
ReadsSecond None from (Some read) = ⊥
ReadsSecond (Some s) from None = starts_with nat_eq (ahead from) (s.0 ∷ []) ≡ false
ReadsSecond (Some s) from (Some read) = (read.0 ≡ s.1) × Passes from read.1 (s.0 ∷ [])

-- the token of this piece was read
pub record ReadsToken (from : Cursor) (read : Token × Cursor) (p : Piece) : Type 0 where
  pub token : token_of read.0 ≡ record { kind = p.kind; text = p.text; at = from.place }
  pub passes : Passes from read.1 p.text

-- what stands at the front was passed, and its mark told
pub record ReadsFront (from : Cursor) (read : Option Mark × Cursor) (front : tokens.Front) : Type 0 where
  pub mark : mark_list read.0 ≡ mark_at front from.place
  pub passes : Passes from read.1 (front_text front)

-- the marks from one cursor on are this one, if any, and those from the other on
pub record PassesMark (from : Cursor) (mark : List tokens.Mark) (to : Cursor) : Type 0 where
  pub marks : upcoming from ≡ mark ++ upcoming to
  pub end : end_place from ≡ end_place to

-- a number has at most 32 bits
abbrev pub IsSpelledMark : tokens.Mark → Type 0
IsSpelledMark (tokens.token t) = t.kind ≡ k.Number → (is_number t.text ≡ true) × (number_of t.text < 2 ^ 32)
IsSpelledMark (tokens.line text) = Unit {0}

-- the next mark was read, or none is left
abbrev pub GivesNext : Cursor → Option Mark → Cursor → Type 0
GivesNext from None to = (upcoming from ≡ []) × (end_place from ≡ to.place)
GivesNext from (Some m) to = PassesMark from (mark_of m ∷ []) to × (length (ahead to) < length (ahead from)) × IsSpelledMark (mark_of m)
