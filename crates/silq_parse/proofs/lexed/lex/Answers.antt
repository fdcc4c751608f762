use Rattle.std.proofs.Common.{◌≡◌}
use Rattle.std.specs.Str.{chars}
use Rattle.silq_lex.specs.Tokens.{located_of, tokens_of, with_first}
use Rattle.silq_parse.proofs.UnderWay.{under_way_first, under_way_next, of_some}
use Rattle.silq_parse.proofs.lexed.lex.Goals as goal

pub loop-token-init : goal.loop-token-init
loop-token-init c = rw c.new-lexer.ensures.tokens (rw c.new-tokens.ensures.items (rw c.new-names.ensures (under_way_first c.args.src.now c.requires)))

pub loop-token-preserved : goal.loop-token-preserved
loop-token-preserved c =
    rw c.in_ok-push-in-Ok-Some.ensures.items
    (under_way_next (tokens_of (chars c.args.src.now)) c.next.new.self c.loop-token.tokens.items c.loop-token.names c.numbered.new.names (located_of c.in-Ok-Some.token)
    c.in_ok-numbered-in-Ok-Some.field-0 c.loop-token.lexer c.loop-token.invariant (of_some (λ token. c.loop-token.lexer ≡ with_first (located_of token) c.next.new.self) c.in-Ok-Some.field-0 c.in-Ok-Some.token c.in-Ok-Some.field-0-is c.in-Ok-Some.ensures.token) c.in_ok-numbered-in-Ok-Some.ensures.names
    (c.in_ok-numbered-in-Ok-Some.ensures.token c.next.new.self.items))
