use Rattle.std.proofs.Common.{◌≡◌, ◌+◌, ◌<◌, ◌^◌, chars, false, ◌∙◌, ap, refl, arith}
use Rattle.qasm_read.specs.Registers.{has, width}
use Rattle.qasm_read.specs.Stored.{registers_of}
use Rattle.qasm_read.proofs.Found.{added_at_end, IsStored-push, registers_of-push}
use Rattle.qasm_read.proofs.registers.Registers.declare.Goals as goal

pub invariant_of-self : goal.invariant_of-self
invariant_of-self c =
    let none : has (registers_of c.self.inside.by_name.entries) (chars c.args.name.now) ≡ false = rw (← c.self.view_is) at c.requires.is_new in
    let grown = c.in-Ok.ensures.entries ∙ added_at_end c.args.name c.utf8.name (record { first = c.self.inside.total; size = c.args.size }) 0 c.self.inside.by_name.entries c.self.invariant.in_turn none in
    let fits : width (registers_of c.self.inside.by_name.entries) + c.args.size < 2 ^ 32 = rw (← c.self.view_is) at c.requires.fits in
    rw grown
    (IsStored-push c.args.name c.utf8.name (record { first = c.self.inside.total; size = c.args.size }) c.self.inside.by_name.entries c.self.inside.total c.self.invariant refl (omega (arith, fits, c.self.invariant.total_is)))

pub returns-in-Ok-clause-ok : goal.returns-in-Ok-clause-ok
returns-in-Ok-clause-ok c =
    let none : has (registers_of c.self.inside.by_name.entries) (chars c.args.name.now) ≡ false = rw (← c.self.view_is) at c.requires.is_new in
    let grown = c.in-Ok.ensures.entries ∙ added_at_end c.args.name c.utf8.name (record { first = c.self.inside.total; size = c.args.size }) 0 c.self.inside.by_name.entries c.self.invariant.in_turn none in
    rw (← c.self.view_is)
    (ap registers_of grown ∙ registers_of-push c.self.inside.by_name.entries (c.args.name, record { first = c.self.inside.total; size = c.args.size }))
