use Rattle.std.proofs.Common.{arith}
use Rattle.std.proofs.lemmas.Grind.{common_steps}
use Rattle.silq_parse.proofs.SimpleReads.{forget_value_reads}
use Rattle.silq_parse.proofs.simple.forget_value.Goals as goal

pub returns-in_ok-value-in-Fixed-clause-reads : goal.returns-in_ok-value-in-Fixed-clause-reads
returns-in_ok-value-in-Fixed-clause-reads c = forget_value_reads c.in-Fixed._is (grind (arith, common_steps)) c.in_ok-value-in-Fixed.ensures.reads
