use Rattle.silq_print.proofs.Puts.{puts_token, puts_and}
use Rattle.silq_print.proofs.printer.Printer.params.Goals as goal

pub returns-clause-puts : goal.returns-clause-puts
returns-clause-puts g c = puts_token c.fixed.ensures.puts (puts_and c.param_list.ensures.puts c.fixed-2.ensures.puts)
