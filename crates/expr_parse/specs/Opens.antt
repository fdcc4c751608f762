-- What may stand behind a name, or behind an index.
use Rattle.std.specs.Prelude.{List}
use Rattle.silq_grammar.specs.declared.token.Token.{Token}
use Rattle.expr_parse.specs.declared.open.Open.{Open}
use Rattle.expr_parse.specs.declared.open.Open.TheVariants as opens

-- the first fact where nothing opens, else that of the tokens behind the bracket, or behind the parenthesis
abbrev pub MatchOpen : Open → Type 0 → (List Token → Type 0) → (List Token → Type 0) → Type 0
MatchOpen opens.Nothing n b p = n
MatchOpen (opens.Bracket rest) n b p = b rest.now
MatchOpen (opens.Paren rest) n b p = p rest.now
