use Rattle.std.proofs.Common.{◌∙◌, sym}
use Rattle.std.specs.Str.{chars}
use Rattle.std.proofs.lemmas.Result.{err_from_is_err_and}
use Rattle.silq_lex.proofs.Located.{token_comes, fault_comes, end_comes, kind_comes}
use Rattle.silq_lex.proofs.cursor.Cursor.next_token.Goals as goal

pub returns-in_err-token-in-Some : goal.returns-in_err-token-in-Some
returns-in_err-token-in-Some c =
    let p = err_from_is_err_and c.from_residual-in_err-token-in-Some.result c.from_residual-in_err-token-in-Some.ensures.1 in
    rw (p.1, p.2) (c.in_ok-here.ensures.0 ∙ fault_comes c.in_ok-here.here c.in-Some.c (chars c.in-Some.next.rest.now) _ c.in-Some.ensures.some.characters c.in_ok-here.ensures.1 c.in_err-token-in-Some.ensures)

pub returns-in_ok-token-in-Some : goal.returns-in_ok-token-in-Some
returns-in_ok-token-in-Some c = (
  c.in_ok-here.ensures.0 ∙ token_comes c.in_ok-here.here c.in_ok-token-in-Some.end c.in-Some.c (chars c.in-Some.next.rest.now) c.in_ok-token-in-Some.token c.in-Some.ensures.some.characters c.in_ok-here.ensures.1 c.in_ok-token-in-Some.ensures,
  kind_comes c.in_ok-here.here c.in_ok-token-in-Some.end c.in_ok-token-in-Some.token c.in_ok-token-in-Some.ensures,
)

pub returns-in-None : goal.returns-in-None
returns-in-None c = (c.in_ok-here.ensures.0 ∙ end_comes c.in_ok-here.here c.in-None.ensures.none, sym c.in_ok-here.ensures.0)
