use Rattle.silq_print.proofs.Puts.{puts_both, puts_token, puts_and}
use Rattle.silq_print.proofs.printer.Printer.store.Goals as goal

pub returns-clause-puts : goal.returns-clause-puts
returns-clause-puts g c = puts_both c.place.ensures.puts (puts_token c.fixed.ensures.puts (puts_and c.expr.ensures.puts c.fixed-2.ensures.puts))
