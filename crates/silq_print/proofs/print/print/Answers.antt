use Rattle.silq_print.proofs.ReadBack.{printed_reads}
use Rattle.silq_print.proofs.print.print.Goals as goal

pub returns-then-failed-clause-reads_back : goal.returns-then-failed-clause-reads_back
returns-then-failed-clause-reads_back g c = printed_reads c.args.program.now.tree c.args.program.now.names c.args.program.now.funs c.requires.program

pub returns-clause-reads_back : goal.returns-clause-reads_back
returns-clause-reads_back g c = printed_reads c.args.program.now.tree c.args.program.now.names c.args.program.now.funs c.requires.program
