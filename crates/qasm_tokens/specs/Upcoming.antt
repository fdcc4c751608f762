-- What is still to come of a text.
use Rattle.std.specs.Prelude.{ℕ, List, [], ◌∷◌, ◌++◌, Option}
use Rattle.silq_lex.specs.declared.token.Place.{Place}
use Rattle.qasm_tokens.specs.Tokens.{Token}
use Rattle.qasm_tokens.specs.Items.{Item, Reach, items_of}

-- the items, and the place of the Syntax
pub record Upcoming : Type 0 where
  pub items : List Item
  pub syntax : Option Place

abbrev pub upcoming_in : Reach → Upcoming
upcoming_in r = record { items = items_of r.marks; syntax = r.syntax }

-- lines and tokens put before the first item
abbrev pub put_before : List (List ℕ) → List Token → List Item → List Item
put_before lines ts [] = record { lines = lines; tokens = ts } ∷ []
put_before lines ts (i ∷ is) = record { lines = lines ++ i.lines; tokens = ts ++ i.tokens } ∷ is

abbrev pub with_parts : List (List ℕ) → List Token → Reach → Upcoming
with_parts lines ts r = record { items = put_before lines ts (items_of r.marks); syntax = r.syntax }
