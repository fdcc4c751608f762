use Rattle.silq_print.proofs.Headers.{puts_param}
use Rattle.silq_tree.specs.Arena.{expr_at}
use Rattle.silq_print.proofs.printer.Printer.param.Goals as goal

pub returns-clause-puts : goal.returns-clause-puts
returns-clause-puts g c = puts_param (expr_at c.args.program.now.tree) c.args.param.now c.word_if.ensures.puts c.name.ensures.puts c.fixed.ensures.puts c.written_type.ensures.puts
