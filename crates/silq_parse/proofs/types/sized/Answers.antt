use Rattle.std.proofs.Common.{◌∷◌, refl, ◌∙◌, arith}
use Rattle.silq_grammar.specs.Machine.{SizePart}
use Rattle.expr_parse.proofs.Exits.{stops}
use Rattle.silq_parse.proofs.TypeReads.{sized_reads}
use Rattle.silq_parse.proofs.types.sized.Goals as goal

pub returns-in_err-scalar-clause-machine : goal.returns-in_err-scalar-clause-machine
returns-in_err-scalar-clause-machine c = λ k h.
    stops _ _ _ _ _ c.from_residual.ensures.1 (refl) (c.in_err-scalar.ensures.machine (SizePart ∷ k) (omega arith))

pub returns-in_err-size-clause-machine : goal.returns-in_err-size-clause-machine
returns-in_err-size-clause-machine c = λ k h.
    stops _ _ _ _ _ c.from_residual-in_err-size.ensures.1 ((c.in_ok-scalar.ensures.machine (SizePart ∷ k) (omega arith))) (c.in_err-size.ensures.machine (k) (omega arith))

pub returns-clause-machine : goal.returns-clause-machine
returns-clause-machine c = λ k h.
    (c.in_ok-scalar.ensures.machine (SizePart ∷ k) (omega arith)) ∙ (c.in_ok-size.ensures.machine (k) (omega arith))

pub returns-clause-reads : goal.returns-clause-reads
returns-clause-reads c = sized_reads _ _ c.args.classical c.args.at c.in_ok-scalar.ensures.reads c.in_ok-size.ensures.reads
