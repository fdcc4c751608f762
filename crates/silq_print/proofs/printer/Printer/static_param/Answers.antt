use Rattle.silq_print.proofs.Puts.{puts_token}
use Rattle.silq_print.proofs.printer.Printer.static_param.Goals as goal

pub returns-clause-puts : goal.returns-clause-puts
returns-clause-puts g c = puts_token c.name.ensures.puts (puts_token c.fixed.ensures.puts (puts_token c.fixed-2.ensures.puts c.fixed-3.ensures.puts))
