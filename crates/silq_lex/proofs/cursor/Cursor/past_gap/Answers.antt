use Rattle.std.proofs.Common.{◌≡◌, ◌∷◌, [], true, sym, ◌∙◌, ap, arith}
use Rattle.std.specs.Str.{chars}
use Rattle.silq_lex.specs.Characters.{is_blank}
use Rattle.silq_lex.specs.Tokens.{Fault, ends}
use Rattle.silq_lex.specs.Cursors.{Passes}
use Rattle.silq_lex.proofs.Passing.{gap_passed, front_blank, line_passed, comment_passed, comment_open}
use Rattle.silq_lex.proofs.cursor.Cursor.past_gap.Goals as goal

pub returns-then-is_blank : goal.returns-then-is_blank
returns-then-is_blank c =
    let p : Passes c.args.self.now c.in-Some.next (c.in-Some.c ∷ []) = c.in-Some.ensures.some in
    let blank : is_blank c.in-Some.c ≡ true = sym c.is_blank.ensures ∙ c.if-is_blank.true in
    (gap_passed c.args.self.now c.in-Some.next c.in-Some.c (chars c.in-Some.next.rest.now) (c.in-Some.c ∷ []) p.characters (front_blank c.in-Some.c (chars c.in-Some.next.rest.now) blank) p, c.in-Some.ensures.shorter)

pub returns-in-Some-eq47-default : goal.returns-in-Some-eq47-default
returns-in-Some-eq47-default c = (
  line_passed c.args.self.now c.in-Some.next c.in-Some-eq47-default.inside c.past.result c.in-Some.c c.in-Some-eq47-default.field-0-0 c.if-c-ne47.false c.in-Some-eq47-default.field-0-0-test
      c.in-Some.ensures.some c.in-Some-eq47-default.ensures.some c.past.ensures.place c.past.ensures.rest,
  omega (arith, c.in-Some.ensures.shorter, c.in-Some-eq47-default.ensures.shorter, c.past.ensures.no_longer),
)

pub returns-in-Some-past_close : goal.returns-in-Some-past_close
returns-in-Some-past_close c = (
  comment_passed c.args.self.now c.in-Some.next c.in-Some-eq42-default.inside c.in-Some-past_close.end c.in-Some.c c.in-Some-eq42-default.field-0-0 c.if-c-ne47.false c.in-Some-eq42-default.field-0-0-test
      c.in-Some.ensures.some c.in-Some-eq42-default.ensures.some c.in-Some-past_close.ensures.there,
  omega (arith, c.in-Some.ensures.shorter, c.in-Some-eq42-default.ensures.shorter, c.in-Some-past_close.ensures.no_longer),
)

pub returns-in-None : goal.returns-in-None
returns-in-None c =
    comment_open c.args.self.now c.in-Some.next c.in-Some-eq42-default.inside c.in-Some.c c.in-Some-eq42-default.field-0-0 c.if-c-ne47.false c.in-Some-eq42-default.field-0-0-test
    c.in-Some.ensures.some c.in-Some-eq42-default.ensures.some c.in-None.ensures.there ∙ ap (λ f. ends (Fault f)) (sym c.fault.ensures)
