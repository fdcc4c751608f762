use Rattle.silq_print.proofs.Headers.{puts_type}
use Rattle.silq_tree.specs.Arena.{expr_at}
use Rattle.silq_print.proofs.printer.Printer.written_type.Goals as goal

pub returns-clause-puts : goal.returns-clause-puts
returns-clause-puts g c = puts_type (expr_at c.args.program.now.tree) c.args.ty c.args.nest c.word_if.ensures.puts c.scalar.ensures.puts c.size_part.ensures.puts
