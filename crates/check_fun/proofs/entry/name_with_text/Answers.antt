use Rattle.std.proofs.Common.{◌∙◌, sym}
use Rattle.check_fun.proofs.EntryFound.{number_here, number_later}
use Rattle.check_fun.proofs.entry.name_with_text.Goals as goal

pub returns-then-eq : goal.returns-then-eq
returns-then-eq c = sym (c.loop-number.invariant ∙ number_here c.args.names.now c.loop-number.number _ c.args.text.now c.text.ensures (sym c.eq.ensures ∙ c.if-eq.true))

pub loop-number-preserved : goal.loop-number-preserved
loop-number-preserved c = c.loop-number.invariant ∙ number_later c.args.names.now c.loop-number.number _ c.args.text.now c.text.ensures (sym c.eq.ensures ∙ c.if-eq.false)
