-- Where tokens first go wrong.
use Rattle.std.specs.Prelude.{nat_lt, cond, List, [], ◌∷◌, Option, Some, None}
use Rattle.grammar_core.specs.Table.{advance, may_stop}
use Rattle.silq_grammar.specs.Tokens.{Token, kind}
use Rattle.silq_grammar.specs.Machine.{Symbol, Functions, table, nest}

pub data Outcome : Type 0 where
  -- the tokens are what was expected
  Fine : Outcome
  -- the first of these cannot come; where there are none, the tokens end too early
  Syntax : List Token → Outcome
  -- the first of these may come, and the nest is above 64 there
  Deep : List Token → Outcome

-- at one token Syntax comes before Deep
abbrev pub outcome_at : Option (List Symbol) → List Token → (List Symbol → Outcome) → Outcome
outcome_at None here go = Syntax here
outcome_at (Some ys) here go = cond (nat_lt 64 (nest ys)) (Deep here) (go ys)

-- the first fault where these symbols are expected, with the tokens from there on
unfoldable pub outcome : List Symbol → List Token → Outcome
outcome xs [] = cond (may_stop table xs) Fine (Syntax [])
outcome xs (t ∷ ts) = outcome_at (advance table xs (kind t)) (t ∷ ts) (λ ys. outcome ys ts)

-- the first fault of the tokens of a program
abbrev pub program_outcome : List Token → Outcome
program_outcome ts = outcome (Functions ∷ []) ts
