use Rattle.std.proofs.Common.{length}
use Rattle.source_table.proofs.Given.{not_wanted}
use Rattle.source_table.proofs.bits.expect.Goals as goal

pub returns-else-given-count-clause-refused : goal.returns-else-given-count-clause-refused
returns-else-given-count-clause-refused c = not_wanted (length c.args.bits.now) c.args.count c.if-given-count.false
