-- What a cursor has before it, and what it has passed.
use Rattle.std.specs.Prelude.{◌≡◌, ℕ, ◌^◌, ◌<◌, List, [], ◌∷◌, ◌++◌, Option, Some, None, Result, Ok, Err, option_map, drop, length}
use Rattle.std.specs.Str.{chars}
use Rattle.silq_lex.specs.Kinds.{kind_of, number_of}
use Rattle.silq_lex.specs.Longest.{longest}
use Rattle.silq_lex.specs.Tokens.{Tokens, token, fault, End, Fault, located, located_of, fault_at, front_of, token_or_fault, is_token, with_first, ends, behind_all, tokens_from}
use Rattle.silq_lex.specs.declared.token.Place.{Place}
use Rattle.silq_lex.specs.declared.token.TokenKind.{TokenKind}
use Rattle.silq_lex.specs.declared.token.TokenKind.TheVariants.{Number}
use Rattle.silq_lex.specs.declared.token.Token.{Token}
use Rattle.silq_lex.specs.declared.token.LexCause.{LexCause}
use Rattle.silq_lex.specs.declared.token.LexFault.{LexFault}
use Rattle.silq_lex.specs.declared.cursor.Cursor.{Cursor}

-- the tokens from a cursor on
abbrev pub upcoming : Cursor → Tokens
upcoming cursor = tokens_from cursor.place (chars cursor.rest.now)

-- between two cursors stand these characters
pub record Passes (from to : Cursor) (text : List ℕ) : Type 0 where
  pub characters : chars from.rest.now ≡ text ++ chars to.rest.now
  pub place : to.place ≡ behind_all from.place text

-- place and characters behind a front of characters, where there is one
abbrev pub behind_front : Place → List ℕ → Option (List ℕ) → Option (Place × List ℕ)
behind_front at cs front = option_map (λ text. (behind_all at text, drop (length text) cs)) front

-- the cursor stands where the pair says
abbrev pub IsThere : Option Cursor → Option (Place × List ℕ) → Type 0
IsThere None None = Unit {0}
IsThere None (Some p) = ⊥
IsThere (Some cursor) None = ⊥
IsThere (Some cursor) (Some p) = (cursor.place ≡ p.0) × (chars cursor.rest.now ≡ p.1)

-- no blank and no comment stands at the front
abbrev pub IsPastGaps : List ℕ → Type 0
IsPastGaps [] = Unit {0}
IsPastGaps (c ∷ cs) = front_of c cs ≡ token_or_fault (longest is_token (c ∷ cs))

-- a blank or a comment was passed, or there is none, or it has no end
abbrev pub PassesGap : Cursor → Result (Option Cursor) LexFault → Type 0
PassesGap from (Ok None) = IsPastGaps (chars from.rest.now)
PassesGap from (Ok (Some to)) = (upcoming from ≡ upcoming to) × (length to.rest.now < length from.rest.now)
PassesGap from (Err f) = upcoming from ≡ ends (Fault f)

-- all blanks and comments were passed, or one has no end
abbrev pub PassesGaps : Cursor → Result Cursor LexFault → Type 0
PassesGaps from (Ok to) = (upcoming from ≡ upcoming to) × IsPastGaps (chars to.rest.now)
PassesGaps from (Err f) = upcoming from ≡ ends (Fault f)

-- the token at the front was read, or there is none
abbrev pub ReadsToken : Cursor → Result (Token × Cursor) LexFault → Type 0
ReadsToken from (Ok p) =
    (text : List ℕ) × (token_or_fault (longest is_token (chars from.rest.now)) ≡ token p.0.kind text)
    × (located_of p.0 ≡ located p.0.kind text from.place) × Passes from p.1 text × (chars p.0.text.now ≡ text)
ReadsToken from (Err f) =
    (cause : LexCause) × (token_or_fault (longest is_token (chars from.rest.now)) ≡ fault cause) × (f ≡ fault_at from.place cause)

-- these characters are of the kind; a number is not too large
abbrev pub HasKind : TokenKind → List ℕ → Type 0
HasKind kind text = (kind_of text ≡ Some kind) × (kind ≡ Number → number_of text < 2 ^ 63)

-- the next token was read, or the end, or the fault
abbrev pub GivesNext : Tokens → Result (Option Token × Cursor) LexFault → Type 0
GivesNext tokens (Ok p) = GivesToken p.0 p.1
  where
    GivesToken : Option Token → Cursor → Type 0
    GivesToken None to = (tokens ≡ ends (End to.place)) × (upcoming to ≡ tokens)
    GivesToken (Some t) to = (tokens ≡ with_first (located_of t) (upcoming to)) × HasKind t.kind (chars t.text.now)
GivesNext tokens (Err f) = tokens ≡ ends (Fault f)
