use Rattle.std.proofs.Common.{refl}
use Rattle.std.specs.Str.{chars}
use Rattle.std.proofs.lemmas.Str.{encodes-chars}
use Rattle.silq_lex.specs.Tokens.{tokens_of}
use Rattle.silq_lex.proofs.Slices.{slices_of}
use Rattle.silq_lex.proofs.lexer.Lexer.new.Goals as goal

pub returns-clause-tokens : goal.returns-clause-tokens
unfolding tokens_of
returns-clause-tokens c = refl

pub returns-clause-slices : goal.returns-clause-slices
unfolding tokens_of
returns-clause-slices c = rw (encodes-chars c.args.src.now c.utf8.src) at (slices_of (chars c.args.src.now))
