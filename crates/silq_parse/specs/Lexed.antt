-- The tokens of a text, with names by their numbers.
use Rattle.std.specs.Prelude.{ℕ, suc, List, [], ◌∷◌, Option, Some, None, if◌then◌else◌, pos, map}
use Rattle.std.specs.Str.{bytes_eq, chars}
use Rattle.silq_tree.specs.declared.node.NameId.{NameId}
use Rattle.silq_tree.specs.declared.node.Spot.{Spot}
use Rattle.silq_tree.specs.Texts.{with_name}
use Rattle.silq_lex.specs.declared.token.TokenKind.{TokenKind}
use Rattle.silq_lex.specs.declared.token.TokenKind.TheVariants as kinds
use Rattle.silq_lex.specs.declared.token.Place.{Place}
use Rattle.silq_lex.specs.Kinds.{number_of}
use Rattle.silq_lex.specs.Tokens.{Located}
use Rattle.silq_grammar.specs.declared.token.Token.{Token}
use Rattle.silq_grammar.specs.declared.token.Token.TheVariants.{Name, Number, Fixed}
use Rattle.silq_grammar.specs.declared.token.Terminal.{Terminal}
use Rattle.silq_grammar.specs.declared.token.Terminal.TheVariants.{Def}
use Rattle.silq_parse.specs.Spelling.{spelled}

abbrev pub spot_at : Place → Spot
spot_at p = record { line = p.line; col = p.col }

-- the number of a name: how many names stand before it
abbrev pub index_of : List (List ℕ) → List ℕ → ℕ
index_of [] text = 0
index_of (n ∷ ns) text = if bytes_eq n text then 0 else suc (index_of ns text)

abbrev pub name_in : List (List ℕ) → List ℕ → NameId
name_in names text = record { number = index_of names text }

-- each reserved word and each sign is spelled so
abbrev pub fixed : Option Terminal → Spot → Token
fixed None at = Fixed Def at
fixed (Some terminal) at = Fixed terminal at

abbrev pub token_as : TokenKind → List (List ℕ) → List ℕ → Spot → Token
token_as kinds.Name names text at = Name (name_in names text) at
token_as kinds.Word names text at = fixed (spelled text) at
token_as kinds.Number names text at = Number (pos (number_of (chars text))) at
token_as kinds.Sign names text at = fixed (spelled text) at

-- a token as the grammar sees it
abbrev pub token_of : List (List ℕ) → Located → Token
token_of names t = token_as t.kind names t.text (spot_at t.at)

-- the names with that of a token, if it is one
abbrev pub named : TokenKind → List (List ℕ) → List ℕ → List (List ℕ)
named kinds.Name names text = with_name names text
named kinds.Word names text = names
named kinds.Number names text = names
named kinds.Sign names text = names

-- these names and those of tokens, each where it first stands
abbrev pub names_with : List (List ℕ) → List Located → List (List ℕ)
names_with names [] = names
names_with names (t ∷ ts) = names_with (named t.kind names t.text) ts

-- the names of tokens in the order in which they first stand
abbrev pub names_of : List Located → List (List ℕ)
names_of ts = names_with [] ts

-- the tokens as the grammar sees them
abbrev pub all_tokens : List Located → List Token
all_tokens ts = map (token_of (names_of ts)) ts
