use Rattle.std.proofs.Common.{chars, ◌∙◌, arith}
use Rattle.qasm_read.specs.Stored.{registers_of}
use Rattle.qasm_read.proofs.Found.{bits_found, bits_small}
use Rattle.qasm_read.proofs.registers.Registers.stored.Goals as goal

pub returns-clause-value : goal.returns-clause-value
returns-clause-value c =
    rw (← c.self.view_is)
    (c.copied.ensures ∙ (c.get.ensures.value ∙ bits_found c.args.name.now c.utf8.name 0 c.self.inside.by_name.entries c.self.invariant.in_turn))

pub returns-clause-fits : goal.returns-clause-fits
returns-clause-fits c =
    let e = c.copied.ensures ∙ (c.get.ensures.value ∙ bits_found c.args.name.now c.utf8.name 0 c.self.inside.by_name.entries c.self.invariant.in_turn) in
    bits_small (registers_of c.self.inside.by_name.entries) (chars c.args.name.now) c.copied.result e (omega (arith, c.self.invariant.total_is, c.self.invariant.small))
