-- Printed tokens are lexed back: the same names, and the same tokens, places aside.
use Rattle.std.proofs.Common.{◌≡◌, ℕ, List, [], map, refl, ◌∙◌, ap}
use Rattle.std.specs.Str.{chars}
use Rattle.std.proofs.lemmas.Str.{chars-encodes}
use Rattle.silq_lex.specs.declared.token.Place.{Place}
use Rattle.silq_lex.specs.Tokens.{Tokens, End, tokens_of}
use Rattle.silq_grammar.specs.declared.token.Token.{Token}
use Rattle.silq_parse.specs.Lexed.{names_of, all_tokens}
use Rattle.silq_print.specs.Bare.{bare_token}
use Rattle.silq_print.specs.Printed.{printed}
use Rattle.silq_print.specs.Proper.{IsProper}
use Rattle.silq_print.proofs.LexedTokens.{all_readable}
use Rattle.silq_print.proofs.LexedRows.{IsRead, IsRow, printed_row}
use Rattle.silq_print.proofs.LexedNames.{names_back, tokens_back}

-- the tokens end without a lexical fault, and have these names and, places aside, are these tokens
abbrev pub AreBack : List (List ℕ) → List Token → Tokens → Type 0
AreBack names ts tokens = ((place : Place) × (tokens.ending ≡ End place)) × (names_of tokens.items ≡ names) × (map bare_token (all_tokens tokens.items) ≡ map bare_token ts)

read_back : (names : List (List ℕ)) (ts : List Token) (tokens : Tokens) → IsProper names ts → IsRead names ts tokens → AreBack names ts tokens
read_back names ts tokens p r =
    let same : names_of tokens.items ≡ names = names_back names p.different ts tokens.items [] names refl p.in_order r.items in
    ((r.place, r.ending), same, rw same (tokens_back names p.different ts tokens.items r.items))

pub lexed_back : (names : List (List ℕ)) (ts : List Token) → IsProper names ts → AreBack names ts (tokens_of (chars (printed names ts)))
unfolding tokens_of
lexed_back names ts p =
    let row : IsRow names ts (printed names ts) = printed_row names ts (all_readable names p.texts 0 ts p.in_order p.small) in
    let same : chars (printed names ts) ≡ row.characters = ap chars row.bytes_of ∙ chars-encodes row.characters row.scalars in
    rw same (read_back names ts _ p (row.tokens (record { start = 0; line = 1; col = 1 })))
