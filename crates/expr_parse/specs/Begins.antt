-- The first token.
use Rattle.std.specs.Prelude.{Bool, false, List, [], ◌∷◌}
use Rattle.silq_grammar.specs.declared.token.Token.{Token}
use Rattle.silq_grammar.specs.declared.token.Token.TheVariants.{Name, Number, Fixed}
use Rattle.silq_grammar.specs.declared.token.Terminal.{Terminal}
use Rattle.silq_grammar.specs.Terminals.{same_terminal}

-- whether the first token is this one
abbrev pub begins_with : Terminal → List Token → Bool
begins_with wanted [] = false
begins_with wanted (Name n s ∷ ts) = false
begins_with wanted (Number v s ∷ ts) = false
begins_with wanted (Fixed found s ∷ ts) = same_terminal found wanted
