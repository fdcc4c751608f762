use Rattle.silq_print.proofs.ReadBack.{printed_reads}
use Rattle.silq_print.proofs.laws.printed_reads_back.Goals as goal

pub returns : goal.returns
returns c = printed_reads
