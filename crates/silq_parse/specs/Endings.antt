-- How the tokens of a text end.
use Rattle.std.specs.Prelude.{Result, Ok, Err}
use Rattle.silq_lex.specs.declared.token.Place.{Place}
use Rattle.silq_lex.specs.declared.token.LexFault.{LexFault}
use Rattle.silq_lex.specs.Tokens.{Ending, End, Fault}

-- at the place behind the last character, or at a fault
abbrev pub ending_of : Result Place LexFault → Ending
ending_of (Ok place) = End place
ending_of (Err fault) = Fault fault
