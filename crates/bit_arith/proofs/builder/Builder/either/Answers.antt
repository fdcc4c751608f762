use Rattle.std.proofs.Common.{ap, ◌∙◌}
use Rattle.bit_arith.specs.Built.{negated}
use Rattle.bit_arith.specs.Rows.{either}
use Rattle.bit_arith.proofs.Going.{refused_out}
use Rattle.bit_arith.proofs.builder.Builder.either.Goals as goal

pub returns-in_err-neither-clause-refused : goal.returns-in_err-neither-clause-refused
unfolding either
returns-in_err-neither-clause-refused c =
    refused_out _ _ _ c.from_residual.ensures.1 (rw (c.negated.ensures, c.negated-2.ensures) at c.in_err-neither.ensures.refused)

pub returns-clause-answer : goal.returns-clause-answer
unfolding either
returns-clause-answer c =
    c.negated-3.ensures ∙ ap negated (rw (c.negated.ensures, c.negated-2.ensures) at c.in_ok-neither.ensures.answer)

pub returns-clause-ok : goal.returns-clause-ok
unfolding either
returns-clause-ok c = rw (c.negated.ensures, c.negated-2.ensures) at c.in_ok-neither.ensures.ok
