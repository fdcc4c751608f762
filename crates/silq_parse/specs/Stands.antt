-- When a program stands for a text.
use Rattle.std.specs.Prelude.{◌≡◌, ℕ, List}
use Rattle.std.specs.Str.{chars}
use Rattle.silq_lex.specs.Tokens.{tokens_of}
use Rattle.silq_tree.specs.declared.node.FunId.{FunId}
use Rattle.silq_tree.specs.Arena.{Forest}
use Rattle.silq_parse.specs.Functions.{IsParsed}
use Rattle.silq_parse.specs.Lexed.{all_tokens, names_of}

-- the nodes, the names and the functions are those of the program that the text is
pub record StandsFor (text : List ℕ) (nodes : Forest) (names : List (List ℕ)) (funs : List FunId) : Type 0 where
  pub parsed : IsParsed nodes (all_tokens (tokens_of (chars text)).items) funs
  -- the names in the order in which they first stand
  pub named : names ≡ names_of (tokens_of (chars text)).items
