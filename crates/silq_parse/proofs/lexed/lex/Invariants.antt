use Rattle.std.proofs.Common.{length}
use Rattle.std.specs.Str.{chars}
use Rattle.silq_lex.specs.Tokens.{tokens_of}
use Rattle.silq_parse.proofs.UnderWay.{IsUnderWay}
use Rattle.silq_parse.proofs.lexed.lex.Given as goal

abbrev pub decreases-loop-token : goal.decreases-loop-token
decreases-loop-token l = length l.lexer.items

abbrev pub invariant-loop-token : goal.invariant-loop-token
invariant-loop-token l = IsUnderWay (tokens_of (chars l.fn.src)) l.lexer l.tokens.items l.names
