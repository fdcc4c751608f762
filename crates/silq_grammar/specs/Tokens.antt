-- Tokens, and what they are apart from their places.
use Rattle.std.specs.Prelude.{List, [], ◌∷◌}
use Rattle.silq_tree.specs.declared.node.Spot.{Spot}
pub use Rattle.silq_grammar.specs.declared.token.Terminal.{Terminal}
pub use Rattle.silq_grammar.specs.declared.token.Terminal.TheVariants as terminals
pub use Rattle.silq_grammar.specs.declared.token.Token.{Token}
pub use Rattle.silq_grammar.specs.declared.token.Token.TheVariants.{Name, Number, Fixed}

-- what a token is, which name or number and where aside
pub data Kind : Type 0 where
  AName ANumber : Kind
  A : Terminal → Kind

abbrev pub kind : Token → Kind
kind (Name id at) = AName
kind (Number value at) = ANumber
kind (Fixed t at) = A t

-- the place of a token
abbrev pub spot_of : Token → Spot
spot_of (Name id at) = at
spot_of (Number value at) = at
spot_of (Fixed t at) = at

-- the place of the first token; where there is none, any
abbrev pub first_spot : List Token → Spot
first_spot [] = record { line = 0; col = 0 }
first_spot (t ∷ ts) = spot_of t
