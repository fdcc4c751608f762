use Rattle.silq_print.proofs.Puts.{puts_token, puts_and}
use Rattle.silq_print.proofs.printer.Printer.return_value.Goals as goal
use Rattle.silq_print.proofs.printer.Printer.return_value.Goals.{in-Some, in_default}

pub returns-clause-puts : goal.returns-clause-puts
returns-clause-puts g c = elim c.match-value.branch [
  | in-Some w ↦ rw w.in-Some.is (puts_token c.fixed.ensures.puts (puts_and w.expr.ensures.puts (rw w.self-is at c.fixed-2.ensures.puts)))
  | in_default w ↦ rw w.in_default.is (puts_token c.fixed.ensures.puts (rw w.self-is at c.fixed-2.ensures.puts))
]
