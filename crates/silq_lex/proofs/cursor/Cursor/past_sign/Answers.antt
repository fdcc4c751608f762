use Rattle.std.proofs.Common.{true, false, sym, ◌∙◌}
use Rattle.silq_lex.proofs.Reading.{there_double, there_end, there_single}
use Rattle.silq_lex.proofs.cursor.Cursor.past_sign.Goals as goal
use Rattle.silq_lex.proofs.cursor.Cursor.past_sign.Goals.{in_default-via-in-Some+else-is_double, in_default-via-in_default}

pub returns-in-Some : goal.returns-in-Some
returns-in-Some c = there_double c.args.self.now c.in-Some.end c.args.c c.in-Some.d c.in-Some.ensures.some (sym c.is_double.ensures ∙ c.if-is_double.true)

pub returns-in_default : goal.returns-in_default
returns-in_default c =
    elim c.in_default.branch [
      | in_default-via-in-Some+else-is_double w ↦ there_single c.args.self.now w.in-Some.end c.args.c w.in-Some.d true w.in-Some.ensures.some (sym w.is_double.ensures ∙ w.if-is_double.false) (sym c.is_single.ensures ∙ c.if-is_single.true)
      | in_default-via-in_default w ↦ there_end c.args.self.now c.args.c true w.in_default.ensures.none (sym c.is_single.ensures ∙ c.if-is_single.true)
    ]

pub returns-in_default-2 : goal.returns-in_default-2
returns-in_default-2 c =
    elim c.in_default.branch [
      | in_default-via-in-Some+else-is_double w ↦ there_single c.args.self.now w.in-Some.end c.args.c w.in-Some.d false w.in-Some.ensures.some (sym w.is_double.ensures ∙ w.if-is_double.false) (sym c.is_single.ensures ∙ c.if-is_single.false)
      | in_default-via-in_default w ↦ there_end c.args.self.now c.args.c false w.in_default.ensures.none (sym c.is_single.ensures ∙ c.if-is_single.false)
    ]
