-- The first fault of a text.
use Rattle.std.specs.Prelude.{ℕ, List, [], ◌∷◌, Option, Some, None, if◌then◌else◌, nat_lt, length}
use Rattle.std.specs.Str.{chars}
use Rattle.silq_lex.specs.Tokens.{Tokens, tokens_of, Ending, End, Fault}
use Rattle.silq_tree.specs.declared.node.Spot.{Spot}
use Rattle.silq_grammar.specs.Tokens.{spot_of}
use Rattle.silq_grammar.specs.Outcome.{Outcome, program_outcome}
use Rattle.silq_grammar.specs.Outcome as outcomes
use Rattle.silq_parse.specs.Lexed.{spot_at, all_tokens}
use Rattle.silq_parse.specs.declared.fault.ParseFault.{ParseFault}
use Rattle.silq_parse.specs.declared.fault.ParseFault.TheVariants.{Long, Lex, Syntax, Deep}

abbrev pub syntax_at : Spot → ParseFault
syntax_at at = Syntax at.line at.col

abbrev pub deep_at : Spot → ParseFault
deep_at at = Deep at.line at.col

-- a fault where the tokens end: a lexical one where that ends them, else one at the text's end
abbrev pub ended_early : Ending → ParseFault
ended_early (End place) = syntax_at (spot_at place)
ended_early (Fault f) = Lex f

-- tokens that are a program, where a lexical fault may still end them
abbrev pub ended : Ending → Option ParseFault
ended (End place) = None
ended (Fault f) = Some (Lex f)

abbrev pub fault_by : Outcome → Ending → Option ParseFault
fault_by outcomes.Fine ending = ended ending
fault_by (outcomes.Syntax []) ending = Some (ended_early ending)
fault_by (outcomes.Syntax (t ∷ ts)) ending = Some (syntax_at (spot_of t))
fault_by (outcomes.Deep []) ending = Some (ended_early ending)
fault_by (outcomes.Deep (t ∷ ts)) ending = Some (deep_at (spot_of t))

abbrev pub fault_of_tokens : Tokens → Option ParseFault
fault_of_tokens tokens = fault_by (program_outcome (all_tokens tokens.items)) tokens.ending

-- the first fault of a text: its length, else the first in the order of the text, and at one token Syntax before Deep; None
-- where it is a program within the limits
abbrev pub first_fault : List ℕ → Option ParseFault
first_fault text = if nat_lt 1048576 (length text) then Some Long else fault_of_tokens (tokens_of (chars text))
