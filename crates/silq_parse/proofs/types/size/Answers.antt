use Rattle.std.proofs.Common.{arith}
use Rattle.std.proofs.lemmas.Grind.{common_steps}
use Rattle.silq_parse.proofs.BlockReads.{part_of}
use Rattle.silq_parse.proofs.types.size.Goals as goal

pub returns-in_ok-id-in-Fixed-clause-reads : goal.returns-in_ok-id-in-Fixed-clause-reads
returns-in_ok-id-in-Fixed-clause-reads c = part_of (c.in_ok-id-in-Fixed.ensures.reads c.in-Fixed._caret) (grind (arith, common_steps))
