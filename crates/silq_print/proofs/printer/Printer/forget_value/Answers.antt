use Rattle.silq_print.proofs.Puts.{puts_token}
use Rattle.silq_print.proofs.printer.Printer.forget_value.Goals as goal

pub returns-in-Some-clause-puts : goal.returns-in-Some-clause-puts
returns-in-Some-clause-puts g c = rw c.in-Some.is (puts_token c.fixed.ensures.puts c.expr.ensures.puts)
