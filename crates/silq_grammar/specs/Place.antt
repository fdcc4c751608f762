-- Where tokens that are no program first go wrong, told by the grammar alone.
use Rattle.std.specs.Prelude.{◌≡◌, ◌⊎◌, List, [], ◌∷◌, ◌++◌}
use Rattle.silq_grammar.specs.Tokens.{Token}
use Rattle.silq_grammar.specs.Grammar.{Program}
use Rattle.silq_grammar.specs.Spelled.{program_text}
use Rattle.silq_grammar.specs.Outcome.{program_outcome, Fine, Syntax, Deep}

-- the tokens are a program
abbrev pub IsProgram : List Token → Type 0
IsProgram ts = (p : Program) × (program_text p ≡ ts)

-- the tokens begin a program
abbrev pub BeginsProgram : List Token → Type 0
BeginsProgram ts = (more : List Token) × IsProgram (ts ++ more)

-- with the first of the rest the tokens so far begin no program; or there is no rest, and they are no program
abbrev pub Breaks : List Token → List Token → Type 0
Breaks front [] = ¬ IsProgram front
Breaks front (t ∷ rest) = ¬ BeginsProgram (front ++ t ∷ [])

-- the rest begins with the first token with which the tokens so far begin no program, or is empty where they end too early
pub record IsFirstFault (ts rest : List Token) : Type 0 where
  pub front : List Token
  pub parts : ts ≡ front ++ rest
  pub begins : BeginsProgram front
  pub breaks : Breaks front rest

-- what the table says of tokens is what the grammar says: fine tokens are a program, a Syntax stands at the first fault, and the
-- tokens before a Deep, and its own, begin a program
pub record TableFollowsGrammar : Type 0 where
  pub fine : (ts : List Token) → program_outcome ts ≡ Fine → IsProgram ts
  pub syntax : (ts rest : List Token) → program_outcome ts ≡ Syntax rest → IsFirstFault ts rest
  pub deep : (ts rest : List Token) → program_outcome ts ≡ Deep rest → (front : List Token) × (t : Token) × (more : List Token) × (rest ≡ t ∷ more) × (ts ≡ front ++ rest) × BeginsProgram (front ++ t ∷ [])

-- the tokens of a program are fine, or too deep: never is a Syntax answered for them
abbrev pub ProgramsAreFine : Type 0
ProgramsAreFine = (p : Program) → (program_outcome (program_text p) ≡ Fine) ⊎ ((rest : List Token) × (program_outcome (program_text p) ≡ Deep rest))
