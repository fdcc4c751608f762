-- Texts and their tokens, by computing.
use Rattle.std.proofs.Common.{◌≡◌, ℕ, [], ◌∷◌, ◌++◌, refl, map}
use Rattle.std.specs.Prelude.{codes}
use lib.Utf8.{encode}
use Rattle.unicode_ident.proofs.Computing.{unicode_ident}
use Rattle.silq_lex.specs.declared.token.TokenKind.TheVariants.{Name, Word, Number, Sign}
use Rattle.silq_lex.specs.declared.token.Place.{Place}
use Rattle.silq_lex.specs.declared.token.LexCause.TheVariants as causes
use Rattle.silq_lex.specs.Tokens.{End, Fault, tokens_of, tokens_from, tokens_within}

at : ℕ → ℕ → ℕ → Place
at start line col = record { start = start; line = line; col = col }

-- x := 1, a comment that does not nest, and a number
row_assign : tokens_of (codes "x:=/* /* */12") ≡ record {
  items = record { kind = Name; text = codes "x"; at = at 0 1 1 } ∷ record { kind = Sign; text = codes ":="; at = at 1 1 2 }
      ∷ record { kind = Number; text = codes "12"; at = at 11 1 12 } ∷ [];
  ending = End (at 13 1 14);
}
unfolding tokens_of tokens_from tokens_within unicode_ident encode at
row_assign = refl

row_open : (tokens_of (codes "a // b" ++ (10 ∷ codes " /* *"))).ending ≡ Fault (record { line = 2; col = 2; cause = causes.Comment })
unfolding tokens_of tokens_from tokens_within unicode_ident
row_open = refl

-- a column counts characters, a start bytes
row_bytes : map (λ t. t.at) (tokens_of (0x1D539 ∷ 0xB7 ∷ 0x3C0 ∷ 32 ∷ 0x1D539 ∷ 120 ∷ [])).items ≡ at 0 1 1 ∷ at 4 1 2 ∷ at 6 1 3 ∷ at 9 1 5 ∷ []
unfolding tokens_of tokens_from tokens_within unicode_ident encode at
row_bytes = refl

row_kinds : map (λ t. t.kind) (tokens_of (0x1D539 ∷ 0xB7 ∷ 0x3C0 ∷ 32 ∷ 0x1D539 ∷ 120 ∷ [])).items ≡ Word ∷ Sign ∷ Word ∷ Name ∷ []
unfolding tokens_of tokens_from tokens_within unicode_ident
row_kinds = refl

row_large : tokens_of (codes "9223372036854775808") ≡ record { items = []; ending = Fault (record { line = 1; col = 1; cause = causes.Number }) }
unfolding tokens_of tokens_from tokens_within unicode_ident
row_large = refl

row_lone : (tokens_of (codes "a.b")).ending ≡ Fault (record { line = 1; col = 2; cause = causes.Character })
unfolding tokens_of tokens_from tokens_within unicode_ident
row_lone = refl
