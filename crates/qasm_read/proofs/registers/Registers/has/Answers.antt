use Rattle.std.proofs.Common.{chars, ◌∙◌, ap}
use Rattle.std.specs.Prelude.{is_some}
use Rattle.qasm_read.proofs.Found.{has_is}
use Rattle.qasm_read.proofs.registers.Registers.has.Goals as goal

pub returns : goal.returns
returns c = c.is_some.ensures ∙ (ap is_some c.bits_of.ensures ∙ has_is 0 c.args.self.now (chars c.args.name.now))
