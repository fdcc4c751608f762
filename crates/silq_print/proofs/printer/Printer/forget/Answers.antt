use Rattle.silq_print.proofs.Puts.{puts_token, puts_and}
use Rattle.silq_print.proofs.printer.Printer.forget.Goals as goal

pub returns-clause-puts : goal.returns-clause-puts
returns-clause-puts g c =
    puts_token c.fixed.ensures.puts (puts_token c.fixed-2.ensures.puts (puts_token c.name.ensures.puts (puts_and c.forget_value.ensures.puts (puts_token c.fixed-3.ensures.puts c.fixed-4.ensures.puts))))
