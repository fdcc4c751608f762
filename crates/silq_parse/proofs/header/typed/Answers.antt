use Rattle.std.proofs.Common.{◌∷◌, refl, ◌∙◌, arith}
use Rattle.silq_grammar.specs.Machine.{AType}
use Rattle.expr_parse.proofs.Exits.{stops}
use Rattle.silq_parse.proofs.HeaderReads.{typed_reads}
use Rattle.silq_parse.proofs.header.typed.Goals as goal

pub returns-in_err-rest-clause-machine : goal.returns-in_err-rest-clause-machine
returns-in_err-rest-clause-machine c = λ k h.
    stops _ _ _ _ _ c.from_residual.ensures.1 (refl) (c.in_err-rest.ensures.machine (AType ∷ k) (omega arith))

pub returns-in_err-ty-clause-machine : goal.returns-in_err-ty-clause-machine
returns-in_err-ty-clause-machine c = λ k h.
    stops _ _ _ _ _ c.from_residual-in_err-ty.ensures.1 ((c.in_ok-rest.ensures.machine (AType ∷ k) (omega arith))) (c.in_err-ty.ensures.machine (k) (omega arith))

pub returns-clause-machine : goal.returns-clause-machine
returns-clause-machine c = λ k h.
    (c.in_ok-rest.ensures.machine (AType ∷ k) (omega arith)) ∙ (c.in_ok-ty.ensures.machine (k) (omega arith))

pub returns-clause-reads : goal.returns-clause-reads
returns-clause-reads c = typed_reads c.args.held c.args.name c.args.at _ _ c.in_ok-rest.ensures.token c.in_ok-ty.ensures.reads
