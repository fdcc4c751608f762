use Rattle.std.proofs.Common.{chars, sym, ◌∙◌}
use Rattle.qasm_read.proofs.Headed.{written_some, written_none}
use Rattle.qasm_read.proofs.line.is_written.Goals as goal

pub returns-in-Some : goal.returns-in-Some
returns-in-Some c = written_some (chars c.args.text.now) c.args.number c.in-Some.written c.ranges.number.fits (sym c.in-Some.is ∙ c.written_number.ensures)

pub returns-in-None : goal.returns-in-None
returns-in-None c = written_none (chars c.args.text.now) c.args.number c.ranges.number.fits (sym c.in-None.is ∙ c.written_number.ensures)
